use Rattle.std.proofs.Common.{◌-◌, ◌≡◌}
use Rattle.steps.specs.Written.{out_of, same_table}
use Rattle.steps.specs.Runs.{leaves}
use Rattle.epochwords.specs.Batch.{read_from}
use Rattle.epochwords.proofs.batch.EpochRecords.read_all.Given as goal

abbrev pub invariant-loop-p : goal.invariant-loop-p
invariant-loop-p l = record {
  run : leaves (out_of l.writer) (read_from l.self.size (l.self.n - l.p) l.p l.readable l.self.words.now l.reader) ≡ leaves (out_of l.initial.writer) (read_from l.self.size l.self.n 0 0 l.self.words.now l.initial.reader);
  table : same_table l.initial.writer l.writer;
}
