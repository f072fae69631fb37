-- What the interface (include/belkjund.h) says of every call: the words of the laws that proofs/ proves. First the numbers that it lists for each operation.
use Rattle.std.specs.Prelude.{ℕ, ◌≤◌, ◌≡◌, List, [], ◌∷◌, Bool, true, false, cond, length, eqb}
use Rattle.steps.specs.Numbers.{success, not_a_state, scratch_too_short, answers_malformed, epoch_too_high, message_malformed, answer_not_next, answers_unread, step_table_too_short, unknown_sender, create_subset, propose_bincode, input_subset, handle_subset_message, decryption, multiple_inputs}
use Rattle.steps.specs.Table.{within}
use Rattle.state.specs.State.{scratch_of}
use Rattle.calls.specs.Calls.{After, zeroed}

-- "1 to 12 turn a call down"
abbrev pub is_refusal : ℕ → Bool
is_refusal reply = within 1 12 reply

unfoldable pub one_of : List ℕ → ℕ → Bool
one_of [] x = false
one_of (y ∷ ys) x = cond (eqb x y) true (one_of ys x)

-- "Failures: 20 `CreateSubset`, 21 `ProposeBincode`, 22 `InputSubset`, 24 `Decryption`, 25 `MultipleInputs`"
abbrev pub propose_failures : List ℕ
propose_failures = create_subset ∷ propose_bincode ∷ input_subset ∷ decryption ∷ multiple_inputs ∷ []

abbrev pub propose_replies : List ℕ
propose_replies =
    success ∷ not_a_state ∷ scratch_too_short ∷ answers_malformed ∷ epoch_too_high ∷ answer_not_next ∷ answers_unread ∷ step_table_too_short
    ∷ propose_failures

-- "Failures 20, 23 `HandleSubsetMessage`, 24, 25."
abbrev pub message_failures : List ℕ
message_failures = create_subset ∷ handle_subset_message ∷ decryption ∷ multiple_inputs ∷ []

abbrev pub message_replies : List ℕ
message_replies =
    success ∷ not_a_state ∷ scratch_too_short ∷ answers_malformed ∷ epoch_too_high ∷ message_malformed ∷ answer_not_next ∷ answers_unread
    ∷ step_table_too_short ∷ unknown_sender ∷ message_failures

-- of a propose or message, whatever words are lent
pub record Promised (replies state scratch step : List ℕ) (r : After) : Type 0 where
  -- the reply is one of those that are listed
  pub listed : one_of replies r.reply ≡ true
  -- "1 to 12 turn a call down: state, step table and any result are untouched"
  pub refusal : is_refusal r.reply ≡ true → (r.state ≡ state) × (r.step ≡ step)
  -- "After any propose or message that passes 4, the first state-length words of scratch are zero, the rest untouched; before that all of it
  -- is untouched."
  pub zeros : r.scratch ≡ cond (one_of (not_a_state ∷ scratch_too_short ∷ []) r.reply) scratch (zeroed state scratch)
  pub room : one_of (not_a_state ∷ scratch_too_short ∷ []) r.reply ≡ false → scratch_of state ≤ length scratch
