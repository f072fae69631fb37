-- `handle_agreement` meets its contract: the proposal does not ask, or by what the instance has told. Assumes nothing.
use Rattle.std.proofs.Common.{refl, sym, ◌∙◌}
use Rattle.steps.specs.Steps.{put_all}
use Rattle.steps.proofs.LentRuns.{onward_ok, onward_err_as}
use Rattle.proposal.specs.Proposal.{handle_agreement, answer_agreement}
use Rattle.proposal.proofs.ProposalState.handle_agreement.Goals as goal

pub returns-in-Ok-clause-run : goal.returns-in-Ok-clause-run
unfolding handle_agreement answer_agreement put_all
returns-in-Ok-clause-run g c = rw (c.after_agreement.ensures, sym c.asks_agreement.ensures ∙ c.if-not-asks_agreement.false) (onward_ok c.args.self _ _ _ c.instance_answer.new.writer _ _ (c.in-Ok.ensures.run _) _ refl)

pub returns-in-Err-clause-run : goal.returns-in-Err-clause-run
unfolding handle_agreement answer_agreement
returns-in-Err-clause-run g c = rw (c.transition-in-Err.ensures, sym c.asks_agreement.ensures ∙ c.if-not-asks_agreement.false) (onward_err_as _ _ _ _ _ c.instance_answer.new.writer _ _ (c.in-Err.ensures.run _))
