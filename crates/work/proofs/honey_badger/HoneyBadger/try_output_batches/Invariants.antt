use Rattle.std.proofs.Common.{◌+◌, ◌-◌, ◌≡◌}
use Rattle.steps.specs.Written.{out_of, same_table}
use Rattle.steps.specs.Runs.{leaves}
use Rattle.state.specs.State.{nodes, ahead, current_epoch}
use Rattle.work.specs.Work.{beside, batches_from}
use Rattle.work.proofs.honey_badger.HoneyBadger.try_output_batches.Given as goal

abbrev pub invariant-loop-number : goal.invariant-loop-number
invariant-loop-number l = record {
  next : l.next ≡ l.number;
  run : leaves (out_of l.writer) (batches_from (nodes l.self.state.now) (beside l.self.state.now l.self.epoch l.words) (l.behind - l.number) l.number l.reader)
      ≡ leaves (out_of l.initial.writer) (batches_from (nodes l.self.state.now) (beside l.self.state.now l.self.epoch l.words) (ahead l.self.state.now + 1) (current_epoch l.self.state.now) l.initial.reader);
  table : same_table l.initial.writer l.writer;
}
