-- Cases of a proposal, as one table under one statement, `proposal_cases`, which is proved by computing the definitions. Assumes nothing.
use Rattle.std.proofs.Common.{ℕ, refl, List, [], ◌∷◌, true, false, Option, None, Some, length}
use Rattle.steps.specs.Steps.{Item}
use Rattle.steps.specs.Runs.{Verdict, going, refused, failed, Run}
use Rattle.steps.proofs.CaseTables
use Rattle.steps.proofs.CaseTables.{Row, ◌⇒◌, Case, case, Done, done, AllHold, yes, no, out, answers}
use Rattle.proposal.specs.declared.ProposalState.{ProposalState}
use Rattle.proposal.specs.declared.ProposalState.TheVariants.{Ongoing, HasValue, Accepted, Complete}
use Rattle.proposal.specs.Proposal.{handle_agreement, handle_broadcast}
use Rattle.proposal.specs.Opened.{opened}

-- THE TABLE'S LANGUAGE. A call of proposer 0's proposal with these answers: the own proposal, a broadcast or agreement message, a vote 0
pub data Op : Type 0 where
  own broadcast agreement vote : List Item → Op

-- what is seen: the verdict, the proposal afterwards, and how many answers are unread
pub record Seen : Type 0 where
  pub verdict : Verdict (Option ℕ)
  pub state : ProposalState
  pub unread : ℕ

abbrev pub moved : Verdict (Option ℕ) → ProposalState → ℕ → Seen
moved v s n = record { verdict = v; state = s; unread = n }

unfoldable pub called : Op → ProposalState → Run ProposalState (Option ℕ)
called (own rs) s = handle_broadcast 22 0 3 s (answers rs)
called (broadcast rs) s = handle_broadcast 23 0 4 s (answers rs)
called (agreement rs) s = handle_agreement 23 0 5 s (answers rs)
called (vote rs) s = handle_agreement 23 0 7 s (answers rs)

-- every row of a case begins with the case's proposal
unfoldable pub apply : Op → ProposalState → Done ProposalState Seen
apply op s = let r = called op s in done s (moved r.verdict r.state (length r.tape.rest))

abbrev pub Rows : Type 0
Rows = List (Row Op Seen)

-- "A proposal goes Ongoing, then HasValue or Accepted, then Complete." Its value is handed up when it is Complete with 1
abbrev pub ongoing : Rows
ongoing =
    -- a broadcast message may bring the value, and then propose(true) is asked at once
    (broadcast (yes 4 0 ∷ []) ⇒ moved (going None) Ongoing 0)
    ∷ (broadcast (yes 4 0 ∷ out 7 ∷ []) ⇒ moved refused (HasValue 7) 0)
    ∷ (broadcast (yes 4 0 ∷ out 7 ∷ yes 6 0 ∷ []) ⇒ moved (going None) (HasValue 7) 0)
    ∷ (broadcast (yes 4 0 ∷ out 7 ∷ yes 6 0 ∷ out 1 ∷ []) ⇒ moved (going (Some 7)) (Complete true) 0)
    ∷ (broadcast (yes 4 0 ∷ out 7 ∷ yes 6 0 ∷ out 0 ∷ []) ⇒ moved (going None) (Complete false) 0)
    ∷ (own (yes 3 0 ∷ out 7 ∷ yes 6 0 ∷ []) ⇒ moved (going None) (HasValue 7) 0)
    -- the answer must be of the kind wanted and about the proposer
    ∷ (own (yes 4 0 ∷ []) ⇒ moved refused Ongoing 1)
    ∷ (broadcast (yes 4 1 ∷ []) ⇒ moved refused Ongoing 1)
    -- of several outputs the last counts
    ∷ (broadcast (yes 4 0 ∷ out 6 ∷ out 7 ∷ yes 6 0 ∷ out 0 ∷ out 1 ∷ []) ⇒ moved (going (Some 7)) (Complete true) 0)
    -- "If propose(true) fails after a value, the proposal keeps HasValue"
    ∷ (broadcast (yes 4 0 ∷ out 7 ∷ no 6 0 ∷ []) ⇒ moved (failed 23) (HasValue 7) 0)
    ∷ (broadcast (no 4 0 ∷ []) ⇒ moved (failed 23) Ongoing 0)
    ∷ (own (no 3 0 ∷ []) ⇒ moved (failed 22) Ongoing 0)
    -- an agreement message may bring the decision
    ∷ (agreement (yes 5 0 ∷ []) ⇒ moved (going None) Ongoing 0)
    ∷ (agreement (yes 5 0 ∷ out 1 ∷ []) ⇒ moved (going None) Accepted 0)
    ∷ (agreement (yes 5 0 ∷ out 1 ∷ out 0 ∷ []) ⇒ moved (going None) (Complete false) 0)
    ∷ (agreement (no 5 0 ∷ []) ⇒ moved (failed 23) Ongoing 0)
    ∷ (vote (yes 7 0 ∷ out 1 ∷ []) ⇒ moved (going None) Accepted 0)
    ∷ []

-- "No outside call is made in HasValue for broadcast, in Accepted for agreement, in Complete at all."
abbrev pub has_value : Rows
has_value =
    (agreement (yes 5 0 ∷ []) ⇒ moved (going None) (HasValue 7) 0)
    ∷ (agreement (yes 5 0 ∷ out 1 ∷ []) ⇒ moved (going (Some 7)) (Complete true) 0)
    ∷ (agreement (yes 5 0 ∷ out 0 ∷ []) ⇒ moved (going None) (Complete false) 0)
    ∷ (vote (yes 7 0 ∷ out 1 ∷ []) ⇒ moved (going (Some 7)) (Complete true) 0)
    ∷ (broadcast (yes 4 0 ∷ []) ⇒ moved (going None) (HasValue 7) 1)
    ∷ []

-- no vote when the value comes
abbrev pub accepted : Rows
accepted =
    (broadcast (yes 4 0 ∷ []) ⇒ moved (going None) Accepted 0)
    ∷ (broadcast (yes 4 0 ∷ out 7 ∷ yes 6 0 ∷ []) ⇒ moved (going (Some 7)) (Complete true) 1)
    ∷ (agreement (yes 5 0 ∷ []) ⇒ moved (going None) Accepted 1)
    ∷ []

abbrev pub complete : Rows
complete =
    (broadcast (yes 4 0 ∷ []) ⇒ moved (going None) (Complete true) 1)
    ∷ (agreement (yes 5 0 ∷ []) ⇒ moved (going None) (Complete true) 1)
    ∷ []

-- THE TABLE
unfoldable pub proposals : List (Case Op ProposalState Seen)
proposals = case Ongoing ongoing ∷ case (HasValue 7) has_value ∷ case Accepted accepted ∷ case (Complete true) complete ∷ []

pub proposal_cases : AllHold apply proposals
unfolding opened CaseTables.opened called apply proposals
proposal_cases = (refl, (refl, (refl, (refl, tt))))
