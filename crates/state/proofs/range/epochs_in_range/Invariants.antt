use Rattle.std.proofs.Common.{◌+◌, ◌-◌, ◌*◌, ◌≡◌, ◌&&◌}
use Rattle.state.specs.State.{ahead, nodes, epochs_at, epochs_in_range}
use Rattle.state.proofs.range.epochs_in_range.Given as goal

abbrev pub invariant-loop-place : goal.invariant-loop-place
invariant-loop-place l = l.ok && epochs_in_range l.state (l.places - l.place) (l.start + l.place * l.length) ≡ epochs_in_range l.state (ahead l.state + 1) (epochs_at (nodes l.state))
