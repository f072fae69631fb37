use Rattle.std.proofs.Common.{◌-◌, ◌≡◌, length}
use Rattle.steps.specs.Runs.{leaves}
use Rattle.steps.specs.Written.{out_of, same_table}
use Rattle.epochwords.specs.Shape.{Listed}
use Rattle.epoch.specs.Epoch.{handle_from}
use Rattle.epoch.proofs.epoch_state.handle_each.Given as goal

abbrev pub invariant-loop-i : goal.invariant-loop-i
invariant-loop-i l = record {
  long : length l.epoch ≡ length l.fn.epoch;
  listed : Listed l.fn.setting.net.num_nodes l.epoch;
  run : leaves (out_of l.writer) (handle_from l.fn.setting.net l.fn.setting.strategy l.fn.setting.encrypted (l.count - l.i) l.i l.epoch l.reader) ≡ leaves (out_of l.fn.writer) (handle_from l.fn.setting.net l.fn.setting.strategy l.fn.setting.encrypted l.count 0 l.fn.epoch l.fn.reader);
  table : same_table l.fn.writer l.writer;
}
