-- `instance_answer` meets its contract, by the answer. Assumes nothing.
use Rattle.std.proofs.Common.{eq-eqb, ne_eqb}
use Rattle.steps.specs.Steps.{put_all}
use Rattle.steps.proofs.LentRuns.{heard_ok_left, unheard_left}
use Rattle.steps.proofs.RunsInParts.{leaves_inside}
use Rattle.proposal.specs.Proposal.{instance_answer}
use Rattle.proposal.proofs.proposal_state.instance_answer.Goals as goal

pub returns-in_default-clause-run : goal.returns-in_default-clause-run
unfolding instance_answer
returns-in_default-clause-run g c = λ s. unheard_left _ s _ _ g.E.Numbered.number _ c.in_default.ensures c.args.writer.now

pub returns-then-a-eq0-clause-run : goal.returns-then-a-eq0-clause-run
unfolding instance_answer put_all
returns-then-a-eq0-clause-run g c = λ s. heard_ok_left _ s _ _ (c.in-Ok.a, c.in-Ok.field-0-1) c.in-Ok.ensures _ _ (rw (eq-eqb _ _ c.if-a-eq0.true))

pub returns-clause-run : goal.returns-clause-run
unfolding instance_answer
returns-clause-run g c = λ s. heard_ok_left _ s _ _ (c.in-Ok.a, c.in-Ok.field-0-1) c.in-Ok.ensures _ _ (rw (ne_eqb _ _ c.if-a-eq0.false) (leaves_inside (λ _. s) _ _ _ c.read_parts.ensures.parts))
