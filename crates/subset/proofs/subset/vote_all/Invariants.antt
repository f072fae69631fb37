use Rattle.std.proofs.Common.{◌-◌, ◌≡◌, length}
use Rattle.steps.specs.Written.{out_of, same_table}
use Rattle.steps.specs.Runs.{leaves}
use Rattle.subset.specs.Subset.{vote_from}
use Rattle.subset.proofs.subset.vote_all.Given as goal

abbrev pub invariant-loop-p : goal.invariant-loop-p
invariant-loop-p g l =
    (length l.epoch ≡ length l.initial.epoch) × same_table l.initial.writer l.writer
    × (leaves (out_of l.writer) (vote_from l.net (g.E.Numbered.number l.error) (l.p-end - l.p) l.p l.epoch l.reader)
    ≡ leaves (out_of l.initial.writer) (vote_from l.net (g.E.Numbered.number l.error) l.p-end 0 l.initial.epoch l.initial.reader))
