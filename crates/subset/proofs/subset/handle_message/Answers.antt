-- `handle_message` meets its contract: the answer ends the call, or the conditions are checked. Assumes nothing.
use Rattle.steps.proofs.LentRuns.{onward_ok, onward_err_as, stops}
use Rattle.subset.proofs.SubsetCode.{message_onward}
use Rattle.subset.proofs.subset.handle_message.Goals as goal

pub returns-in_err-answer_at-clause-run : goal.returns-in_err-answer_at-clause-run
returns-in_err-answer_at-clause-run g c =
    rw (stops _ _ c.from_residual.ensures.1, message_onward c.args.net) (onward_err_as _ _ _ _ _ c.answer_at.new.writer _ _ (rw (c.message_kind-kind.ensures.number, c.message_kind-kind.ensures.content) at c.in_err-answer_at.ensures.run))

pub returns-clause-run : goal.returns-clause-run
returns-clause-run g c = rw (message_onward c.args.net) (onward_ok _ _ _ _ c.answer_at.new.writer _ _ (rw (c.message_kind-kind.ensures.number, c.message_kind-kind.ensures.content) at c.in_ok-answer_at.ensures.run) _ c.try_output.ensures.run)
