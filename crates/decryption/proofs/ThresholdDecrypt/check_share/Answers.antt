-- `check_share` meets its contract: there is no share, or by what is found of it. Assumes nothing.
use Rattle.steps.specs.Steps.{put_all}
use Rattle.steps.proofs.LentRuns.{read_ok_left, read_err_left, stops}
use Rattle.decryption.specs.Decrypt.{check_share}
use Rattle.decryption.proofs.ThresholdDecrypt.check_share.Goals as goal
use Rattle.decryption.proofs.ThresholdDecrypt.check_share.Goals.{else-is_sender-via-then-is_sender+in_ok-is_share_valid+else-not-branch, else-is_sender-via-else-is_sender}

pub returns-in_err-is_share_valid-clause-run : goal.returns-in_err-is_share_valid-clause-run
unfolding check_share
returns-in_err-is_share_valid-clause-run c = rw (stops _ _ c.from_residual.ensures.1, ← c.if-is_sender.ensures) (read_err_left _ _ _ _ _ c.in_err-is_share_valid.ensures c.args.writer.now)

pub returns-then-not-branch-clause-run : goal.returns-then-not-branch-clause-run
unfolding check_share put_all
returns-then-not-branch-clause-run c = rw (← c.if-is_sender.ensures) (read_ok_left _ _ _ _ _ c.in_ok-is_share_valid.ensures _ _ (rw (c.if-not-branch.true, c.fault.ensures.step)))

pub returns-else-is_sender-clause-run : goal.returns-else-is_sender-clause-run
unfolding check_share put_all
returns-else-is_sender-clause-run c =
    elim c.else-is_sender.branch [
      | else-is_sender-via-then-is_sender+in_ok-is_share_valid+else-not-branch w ↦
          rw (← w.if-is_sender.ensures, w.reader-is) (read_ok_left _ _ _ _ _ w.in_ok-is_share_valid.ensures _ _ (rw w.if-not-branch.false))
      | else-is_sender-via-else-is_sender w ↦ rw (← w.if-is_sender.ensures, w.reader-is)
    ]
