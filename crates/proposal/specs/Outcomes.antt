-- A step of a proposal in the code.
use Rattle.std.specs.Prelude.{ℕ, Option, Result, Ok}
use Rattle.steps.specs.declared.kinds.Stop.{Stop}
use Rattle.proposal.specs.declared.ProposalState.{ProposalState}
use Rattle.proposal.specs.declared.proposal_state.Transition.{Transition}
use Rattle.proposal.specs.Proposal.{Moved}

abbrev pub transition : {E : Type 0} → ProposalState → Result (Option ℕ) (Stop E) → Transition E
transition s outcome = record { state = s; outcome = outcome }

-- a proposal that has moved goes on with the value that it outputs, or without one
abbrev pub transition_of : {E : Type 0} → Moved → Transition E
transition_of m = transition m.state (Ok m.value)
