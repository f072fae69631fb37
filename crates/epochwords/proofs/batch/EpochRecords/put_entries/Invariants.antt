use Rattle.std.proofs.Common.{◌-◌, ◌≡◌}
use Rattle.steps.specs.Written.{out_of, same_table}
use Rattle.steps.specs.Steps.{put_all}
use Rattle.epochwords.specs.Batch.{entries_from}
use Rattle.epochwords.proofs.batch.EpochRecords.put_entries.Given as goal

abbrev pub invariant-loop-p : goal.invariant-loop-p
invariant-loop-p l = record {
  entries : put_all (out_of l.writer) (entries_from l.self.size (l.self.n - l.p) l.p l.readable l.self.words.now) ≡ put_all (out_of l.initial.writer) (entries_from l.self.size l.self.n 0 l.readable l.self.words.now);
  table : same_table l.initial.writer l.writer;
}
