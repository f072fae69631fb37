-- A proposal, after proposal_state.rs. `error` is the number that the caller gives a failure, 22 or 23.
use Rattle.std.specs.Prelude.{ℕ, Bool, true, false, cond, eqb}
use Rattle.std.specs.Prelude.{Option, None, Some}
use Rattle.steps.specs.declared.reader.Content.{Content}
use Rattle.steps.specs.declared.reader.Content.TheVariants.{Broadcast, Agreement}
use Rattle.steps.specs.Numbers.{propose_true}
use Rattle.steps.specs.Answers.{Tape, ask_about}
use Rattle.steps.specs.Runs.{going, failed, Run, ends, onward, heard}
use Rattle.steps.specs.Parts.{read_parts}
use Rattle.proposal.specs.declared.ProposalState.{ProposalState}
use Rattle.proposal.specs.declared.ProposalState.TheVariants.{Ongoing, HasValue, Accepted, Complete}

-- the value is here, or was output
unfoldable pub received : ProposalState → Bool
received Ongoing = false
received Accepted = false
received (HasValue v) = true
received (Complete b) = b

-- the agreement has decided 1, whether the value is here or not
unfoldable pub accepted : ProposalState → Bool
accepted Ongoing = false
accepted (HasValue v) = false
accepted Accepted = true
accepted (Complete b) = b

-- rejected, or accepted and output
unfoldable pub complete : ProposalState → Bool
complete Ongoing = false
complete (HasValue v) = false
complete Accepted = false
complete (Complete b) = true

-- a proposal's state and the value that it outputs, if it does
pub record Moved : Type 0 where
  pub state : ProposalState
  pub value : Option ℕ

abbrev pub moved : ProposalState → Option ℕ → Moved
moved s v = record { state = s; value = v }

-- the answer of the agreement instance, already read: "A proposal goes Ongoing, then HasValue or Accepted, then Complete"
unfoldable pub after_agreement : ProposalState → Option ℕ → Moved
after_agreement Ongoing None = moved Ongoing None
after_agreement Ongoing (Some d) = cond (eqb d 0) (moved (Complete false) None) (moved Accepted None)
after_agreement (HasValue v) None = moved (HasValue v) None
after_agreement (HasValue v) (Some d) = cond (eqb d 0) (moved (Complete false) None) (moved (Complete true) (Some v))
after_agreement Accepted out = moved Accepted None
after_agreement (Complete b) out = moved (Complete b) None

-- the answer of the broadcast instance, already read
unfoldable pub after_broadcast : ProposalState → Option ℕ → Moved
after_broadcast Ongoing None = moved Ongoing None
after_broadcast Ongoing (Some v) = moved (HasValue v) None
after_broadcast Accepted None = moved Accepted None
after_broadcast Accepted (Some v) = moved (Complete true) (Some v)
after_broadcast (HasValue v) out = moved (HasValue v) None
after_broadcast (Complete b) out = moved (Complete b) None

-- "No outside call is made in HasValue for broadcast, in Accepted for agreement, in Complete at all."
unfoldable pub asks_agreement : ProposalState → Bool
asks_agreement Ongoing = true
asks_agreement (HasValue v) = true
asks_agreement Accepted = false
asks_agreement (Complete b) = false

unfoldable pub asks_broadcast : ProposalState → Bool
asks_broadcast Ongoing = true
asks_broadcast Accepted = true
asks_broadcast (HasValue v) = false
asks_broadcast (Complete b) = false

abbrev pub moved_to : Moved → Tape → Run ProposalState (Option ℕ)
moved_to m tape = ends (going m.value) m.state tape

module _ (error p : ℕ) where
  -- `convert_bc` and `convert_ba`: an instance's answer of this kind about proposer p, and its last output
  unfoldable pub instance_answer : ℕ → Content → ProposalState → Tape → Run ProposalState (Option ℕ)
  instance_answer kind content s tape =
      heard (ask_about tape kind p) s (λ a b tape.
      cond (eqb a 0) (ends (failed error) s tape) (read_parts content p s tape))

  -- an agreement message (kind 5), propose(true) (6) or propose(false) (7), of a proposal that asks its agreement instance
  unfoldable pub answer_agreement : ℕ → ProposalState → Tape → Run ProposalState (Option ℕ)
  answer_agreement kind s tape =
      onward (instance_answer kind Agreement s tape) (λ out s tape. moved_to (after_agreement s out) tape)

  -- the value has come while the agreement is undecided: a vote 1 for it. "If propose(true) fails after a value, the proposal keeps HasValue."
  unfoldable pub vote_true : Moved → Tape → Run ProposalState (Option ℕ)
  vote_true m tape = cond (asks_agreement m.state) (answer_agreement propose_true m.state tape) (moved_to m tape)

  unfoldable pub after_value : ProposalState → Option ℕ → Tape → Run ProposalState (Option ℕ)
  after_value s None tape = moved_to (after_broadcast s None) tape
  after_value s (Some v) tape = vote_true (after_broadcast s (Some v)) tape

  -- `Broadcast::broadcast` (kind 3) or `Broadcast::handle_message` (4), of a proposal that asks its broadcast instance
  unfoldable pub answer_broadcast : ℕ → ProposalState → Tape → Run ProposalState (Option ℕ)
  answer_broadcast kind s tape =
      onward (instance_answer kind Broadcast s tape) (λ out s tape. after_value s out tape)

  -- `handle_agreement` and `handle_broadcast`, which leave any other proposal as it is
  unfoldable pub handle_agreement : ℕ → ProposalState → Tape → Run ProposalState (Option ℕ)
  handle_agreement kind s tape = cond (asks_agreement s) (answer_agreement kind s tape) (moved_to (moved s None) tape)

  unfoldable pub handle_broadcast : ℕ → ProposalState → Tape → Run ProposalState (Option ℕ)
  handle_broadcast kind s tape = cond (asks_broadcast s) (answer_broadcast kind s tape) (moved_to (moved s None) tape)
