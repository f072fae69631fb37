use Rattle.std.proofs.Common.{◌-◌, ◌≡◌}
use Rattle.steps.specs.Steps.{put_all}
use Rattle.steps.specs.Written.{out_of, same_table}
use Rattle.epoch.specs.Epoch.{unexpected_from}
use Rattle.epoch.proofs.epoch_state.unexpected_from.Given as goal

abbrev pub invariant-loop-sender : goal.invariant-loop-sender
invariant-loop-sender l = record {
  step : put_all (out_of l.writer) (unexpected_from (l.n - l.sender) l.sender l.td) ≡ put_all (out_of l.fn.writer) (unexpected_from l.n 0 l.td);
  table : same_table l.fn.writer l.writer;
}
