-- What each operation replies, and every word that it leaves (docs/EVIDENCE.md, 'What each operation replies'). Quoted is the owner's text of
-- the interface.
use Rattle.std.specs.Prelude.{ℕ, ◌+◌, ◌/◌, List, ◌++◌, Bool, cond, ◌&&◌, not, length, set, drop, replicate, eqb, leb, ltb}
use Rattle.steps.specs.Numbers.{broadcast_content, agreement_content, share_content, success, not_a_state, scratch_too_short, answers_malformed, epoch_too_high, message_malformed, answers_unread, step_table_too_short, unknown_sender, target_too_high, last_epoch, fault_limit}
use Rattle.steps.specs.Table.{handle, within, table_ok}
use Rattle.steps.specs.Answers.{tape_of}
unfoldable pub use Rattle.steps.specs.Answers.{is_end}
use Rattle.steps.specs.Steps.{Entry, faults, written, written_failed}
use Rattle.steps.specs.Runs.{Verdict, going, refused, failed, number_of, Run}
use Rattle.epoch.specs.declared.MessageContent.{MessageContent}
use Rattle.steps.specs.declared.reader.Content.TheVariants.{Broadcast, Agreement}
use Rattle.epoch.specs.declared.MessageContent.TheVariants.{Subset, DecryptionShare}
use Rattle.state.specs.State.{nodes, current_epoch, fault_count, scratch_of, faults_at, state_ok}
use Rattle.work.specs.HoneyBadger.{propose, handle_message, skip_to_epoch, has_input, received_proposals}

-- a call's reply, and the lent words afterwards
pub record After : Type 0 where
  pub reply : ℕ
  pub state : List ℕ
  pub scratch : List ℕ
  pub step : List ℕ

abbrev pub after : ℕ → List ℕ → List ℕ → List ℕ → After
after reply state scratch step = record { reply = reply; state = state; scratch = scratch; step = step }

-- "the first state-length words of scratch are zero, the rest untouched"
unfoldable pub zeroed : List ℕ → List ℕ → List ℕ
zeroed state scratch = replicate (scratch_of state) 0 ++ drop (scratch_of state) scratch

-- "the fault count, all faults in successful steps since creation, stopping at 2^32−1"
unfoldable pub count_faults : List ℕ → List Entry → List ℕ
count_faults w log =
    cond (leb (fault_count w + length (faults log)) fault_limit)
    (set w faults_at (fault_count w + length (faults log)))
    (set w faults_at fault_limit)

-- what a run comes to: 8, 9 and 10, in this order, leave the state and the step table untouched; a failure loses the step
unfoldable pub conclude_as : Verdict (Unit {0}) → Run (List ℕ) (Unit {0}) → ℕ → List ℕ → List ℕ → List ℕ → After
conclude_as refused r epoch state scratch step = after (number_of {A = Unit {0}} refused) state scratch step
conclude_as (going a) r epoch state scratch step =
    -- "9: answers remain unread"
    cond (not (is_end r.tape.rest)) (after answers_unread state scratch step)
    -- "10: the step table has fewer whole records than the step"
    (cond (ltb (length step / 4) (1 + length r.log)) (after step_table_too_short state scratch step)
    (after (number_of (going a)) (count_faults r.state r.log) scratch (written step r.log epoch)))
conclude_as (failed error) r epoch state scratch step =
    cond (not (is_end r.tape.rest)) (after answers_unread state scratch step)
    -- "and 10 if no header fits"
    (cond (ltb (length step / 4) 1) (after step_table_too_short state scratch step)
    (after (number_of {A = Unit {0}} (failed error)) r.state scratch (written_failed step epoch)))

abbrev pub conclude : Run (List ℕ) (Unit {0}) → ℕ → List ℕ → List ℕ → List ℕ → After
conclude r epoch state scratch step = conclude_as r.verdict r epoch state scratch step

-- "7: content not 1 broadcast, 2 agreement, 3 share; proposer ≥ N; […]"
unfoldable pub content_ok : ℕ → ℕ → ℕ → Bool
content_ok n content proposer = within broadcast_content share_content content && ltb proposer n

-- "7: […] item not 0 for contents 1 and 2, or not a handle for 3"
unfoldable pub item_ok : ℕ → ℕ → Bool
item_ok content item = cond (eqb content share_content) (handle item) (eqb item 0)

unfoldable pub content_of : ℕ → ℕ → MessageContent
content_of content item =
    cond (eqb content broadcast_content) (Subset Broadcast) (cond (eqb content agreement_content) (Subset Agreement) (DecryptionShare item))

module _ (state scratch answers step : List ℕ) where
  -- propose with one more check: 3, 4, 5, 6, then the reply g where it is not 0, then the run
  unfoldable pub propose_after : ℕ → After
  propose_after g =
      cond (not (state_ok state)) (after not_a_state state scratch step)
      (cond (ltb (length scratch) (scratch_of state)) (after scratch_too_short state scratch step)
      (cond (not (table_ok (nodes state) answers)) (after answers_malformed state (zeroed state scratch) step)
      (cond (ltb last_epoch (current_epoch state)) (after epoch_too_high state (zeroed state scratch) step)
      (cond (not (eqb g 0)) (after g state (zeroed state scratch) step)
      (conclude (propose state (tape_of answers)) (current_epoch state) state (zeroed state scratch) step)))))

  -- propose: checks 3, 4, 5, 6, then the run
  abbrev pub propose_call : After
  propose_call = propose_after 0

  module _ (sender epoch content proposer item : ℕ) where
    -- message: checks 3, 4, 5, 11, 7, 6, then the run
    unfoldable pub message_call : After
    message_call =
        cond (not (state_ok state)) (after not_a_state state scratch step)
        (cond (ltb (length scratch) (scratch_of state)) (after scratch_too_short state scratch step)
        (cond (not (table_ok (nodes state) answers)) (after answers_malformed state (zeroed state scratch) step)
        (cond (leb (nodes state) sender) (after unknown_sender state (zeroed state scratch) step)
        (cond (not (content_ok (nodes state) content proposer)) (after message_malformed state (zeroed state scratch) step)
        (cond (not (item_ok content item)) (after message_malformed state (zeroed state scratch) step)
        (cond (ltb last_epoch (current_epoch state)) (after epoch_too_high state (zeroed state scratch) step)
        (conclude (handle_message sender epoch proposer (content_of content item) state (tape_of answers)) epoch state (zeroed state scratch) step)))))))

-- skip: its reply, and the state afterwards. "12: target above 2^62. No step."
unfoldable pub skip_reply : ℕ → List ℕ → ℕ
skip_reply target w = cond (not (state_ok w)) not_a_state (cond (ltb last_epoch target) target_too_high success)

unfoldable pub skip_state : ℕ → List ℕ → List ℕ
skip_state target w = cond (eqb (skip_reply target w) success) (skip_to_epoch target w) w

-- queries: reply 3 or 0, and the result, untouched where the reply is 3
unfoldable pub query_reply : List ℕ → ℕ
query_reply w = cond (state_ok w) success not_a_state

unfoldable pub current_epoch_result : List ℕ → ℕ → ℕ
current_epoch_result w result = cond (state_ok w) (current_epoch w) result

unfoldable pub has_input_result : List ℕ → ℕ → ℕ
has_input_result w result = cond (state_ok w) (cond (has_input w) 1 0) result

unfoldable pub received_proposals_result : List ℕ → ℕ → ℕ
received_proposals_result w result = cond (state_ok w) (received_proposals w) result

unfoldable pub fault_count_result : List ℕ → ℕ → ℕ
fault_count_result w result = cond (state_ok w) (fault_count w) result
