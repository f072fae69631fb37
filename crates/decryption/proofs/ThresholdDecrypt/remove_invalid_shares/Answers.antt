-- `remove_invalid_shares` meets its contract. The invariant: what checking from here on leaves is what checking from the start leaves.
-- Assumes nothing.
use Rattle.steps.proofs.LentRuns.{stops}
use Rattle.std.proofs.Common.{sym, ap, ◌∙◌}
use Rattle.steps.specs.Runs.{leaves}
use Rattle.steps.specs.Steps.{put_all}
use Rattle.decryption.proofs.ShareCode.{remove_goes, remove_stops, remove_done}
use Rattle.decryption.proofs.ThresholdDecrypt.remove_invalid_shares.Goals as goal

pub returns-in_err-check_share-clause-run : goal.returns-in_err-check_share-clause-run
returns-in_err-check_share-clause-run c = rw (stops _ _ c.from_residual.ensures.1) (remove_stops _ _ _ c.loop-sender-test.true _ _ c.check_share.new.writer _ _ c.in_err-check_share.ensures.run ∙ c.loop-sender.invariant.run)

pub loop-sender-preserved : goal.loop-sender-preserved
loop-sender-preserved c = record {
  run = remove_goes _ _ _ c.loop-sender-test.true _ _ c.check_share.new.writer _ c.in_ok-check_share.ensures.run ∙ c.loop-sender.invariant.run;
  table = c.check_share.ensures.table ∙ c.loop-sender.invariant.table;
}

pub returns-clause-run : goal.returns-clause-run
unfolding put_all
returns-clause-run c = ap (leaves _) (sym (remove_done _ _ _ c.loop-sender-test.false)) ∙ c.loop-sender.invariant.run
