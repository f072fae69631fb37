-- `handle_broadcast` meets its contract: the proposal does not ask, or by what the instance has told. Assumes nothing.
use Rattle.std.proofs.Common.{sym, ◌∙◌}
use Rattle.steps.proofs.LentRuns.{onward_ok, onward_err_as}
use Rattle.proposal.specs.Proposal.{handle_broadcast, answer_broadcast}
use Rattle.proposal.proofs.ProposalState.handle_broadcast.Goals as goal

pub returns-in-Ok-clause-run : goal.returns-in-Ok-clause-run
unfolding handle_broadcast answer_broadcast
returns-in-Ok-clause-run g c = rw (sym c.asks_broadcast.ensures ∙ c.if-not-asks_broadcast.false) (onward_ok c.args.self _ _ _ c.instance_answer.new.writer _ _ (c.in-Ok.ensures.run _) _ c.after_value.ensures.run)

pub returns-in-Err-clause-run : goal.returns-in-Err-clause-run
unfolding handle_broadcast answer_broadcast
returns-in-Err-clause-run g c = rw (c.transition-in-Err.ensures, sym c.asks_broadcast.ensures ∙ c.if-not-asks_broadcast.false) (onward_err_as _ _ _ _ _ c.instance_answer.new.writer _ _ (c.in-Err.ensures.run _))
