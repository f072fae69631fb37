use Rattle.std.proofs.Common.{◌+◌, ◌-◌, ◌≡◌}
use Rattle.state.specs.State.{ahead, current_epoch}
use Rattle.state.specs.Shape.{StateWords}
use Rattle.work.specs.HoneyBadger.{clear_below}
use Rattle.work.proofs.commit.clear_below.Given as goal

abbrev pub invariant-loop-epoch : goal.invariant-loop-epoch
invariant-loop-epoch l = StateWords l.state × (clear_below l.target (l.behind - l.epoch) l.epoch l.state ≡ clear_below l.target (ahead l.initial.state + 1) (current_epoch l.initial.state) l.initial.state)
