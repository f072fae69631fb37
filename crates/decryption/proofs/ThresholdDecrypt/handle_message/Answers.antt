-- `handle_message` meets its contract, case by case. Assumes nothing.
use Rattle.std.proofs.Common.{sym, ap, ◌∙◌}
use Rattle.steps.specs.Runs.{leaves}
use Rattle.steps.specs.Steps.{put_all}
use Rattle.steps.proofs.LentRuns.{read_ok_left, read_err_left, stops}
use Rattle.decryption.proofs.MessageCode.{handle_ended, handle_goes}
use Rattle.decryption.proofs.ThresholdDecrypt.handle_message.Goals as goal

pub returns-then-self-clause-run : goal.returns-then-self-clause-run
unfolding put_all
returns-then-self-clause-run c = ap (leaves _) (sym (handle_ended _ _ _ _ _ _ c.if-self.true))

pub returns-in_err-is_share_valid-clause-run : goal.returns-in_err-is_share_valid-clause-run
returns-in_err-is_share_valid-clause-run c = rw (stops _ _ c.from_residual.ensures.1) (read_err_left _ _ _ _ _ c.in_err-is_share_valid.ensures c.args.writer.now ∙ ap (leaves _) (sym (handle_goes _ _ _ _ _ _ c.if-self.false)))

pub returns-then-not-branch-clause-run : goal.returns-then-not-branch-clause-run
unfolding put_all
returns-then-not-branch-clause-run c = read_ok_left _ _ _ _ _ c.in_ok-is_share_valid.ensures _ _ (rw (c.if-not-branch.true, c.fault.ensures.step)) ∙ ap (leaves _) (sym (handle_goes _ _ _ _ _ _ c.if-self.false))

pub returns-clause-run : goal.returns-clause-run
returns-clause-run c = read_ok_left _ _ _ _ _ c.in_ok-is_share_valid.ensures _ _ (rw c.if-not-branch.false c.store_share.ensures.run) ∙ ap (leaves _) (sym (handle_goes _ _ _ _ _ _ c.if-self.false))
