use Rattle.std.proofs.Common.{◌-◌, ◌≡◌, length}
use Rattle.steps.specs.Answers.{Tape}
use Rattle.steps.specs.Runs.{leaves}
use Rattle.steps.specs.Written.{out_of, same_table}
use Rattle.epoch.specs.Epoch.{finish_from}
use Rattle.epoch.proofs.epoch_state.finish.Given as goal

abbrev pub invariant-loop-p : goal.invariant-loop-p
invariant-loop-p l = record {
  long : length l.epoch ≡ length l.fn.epoch;
  run : (t : Tape) → leaves (out_of l.writer) (finish_from l.net (l.net.num_nodes - l.p) l.p l.epoch t) ≡ leaves (out_of l.fn.writer) (finish_from l.net l.net.num_nodes 0 l.fn.epoch t);
  table : same_table l.fn.writer l.writer;
}
