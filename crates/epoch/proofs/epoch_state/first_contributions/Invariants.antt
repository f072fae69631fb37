use Rattle.std.proofs.Common.{◌-◌, ◌≡◌, length}
use Rattle.subset.specs.Words.{drop_from}
use Rattle.epochwords.specs.Shape.{Listed}
use Rattle.epoch.proofs.epoch_state.first_contributions.Given as goal

abbrev pub invariant-loop-i : goal.invariant-loop-i
invariant-loop-i l = record {
  long : length l.epoch ≡ length l.fn.epoch;
  listed : Listed l.n l.epoch;
  cut : drop_from l.n (l.count - l.i) l.i l.epoch ≡ drop_from l.n (l.count - l.k) l.k l.fn.epoch;
}
