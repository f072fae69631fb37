use Rattle.std.proofs.Common.{◌-◌, ◌≡◌, ◌&&◌}
use Rattle.epochwords.proofs.RangeCode.{smalls_in_range}
use Rattle.epochwords.proofs.range.epoch_in_range.Given as goal

abbrev pub invariant-loop-p : goal.invariant-loop-p
invariant-loop-p l = l.ok && smalls_in_range l.n (l.n - l.p) l.p l.epoch ≡ l.initial.ok && smalls_in_range l.n l.n 0 l.epoch
