-- `try_output_batches` meets its contract. The invariant: what the batches from here on leave is what all leave. Assumes nothing.
use Rattle.std.proofs.Common.{refl, ◌∙◌}
use Rattle.work.proofs.BatchTurnCode.{tried_goes}
use Rattle.work.proofs.honey_badger.HoneyBadger.try_output_batches.Goals as goal

pub loop-number-preserved : goal.loop-number-preserved
loop-number-preserved c = record {
  next = refl;
  run = tried_goes _ _ _ c.loop-number.number _ _ _ (rw c.if-not-branch.false at c.in_ok-try_output_at.ensures.run) c.loop-number-test.true refl ∙ c.loop-number.invariant.run;
  table = c.try_output_at.ensures.table ∙ c.loop-number.invariant.table;
}
