use Rattle.std.proofs.Common.{◌-◌, ◌≡◌}
use Rattle.epochwords.specs.Batch.{decrypted_from}
use Rattle.epochwords.proofs.batch.EpochRecords.is_ready.Given as goal

abbrev pub invariant-loop-p : goal.invariant-loop-p
invariant-loop-p l = decrypted_from l.self.size l.self.n 0 l.self.words.now ≡ decrypted_from l.self.size (l.self.n - l.p) l.p l.self.words.now
