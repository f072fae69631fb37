-- The checks of propose and message apart from the run, as the code does them: the reply that turns a call down, or 0.
-- Nobody has to believe these: proofs/ChecksApart.antt proves that with what follows them they are the calls of Calls.antt.
use Rattle.std.specs.Prelude.{ℕ, List, Bool, cond, ◌&&◌, not, eqb, leb, ltb, Result, Ok, Err}
use Rattle.steps.specs.Numbers.{success, not_a_state, scratch_too_short, answers_malformed, epoch_too_high, message_malformed, unknown_sender, last_epoch, broadcast_content, share_content}
use Rattle.steps.specs.Table.{within, table_ok}
use Rattle.state.specs.State.{nodes, current_epoch, scratch_of, state_ok}
use Rattle.calls.specs.Calls.{After, after, zeroed, content_ok, item_ok, content_of}
use Rattle.epoch.specs.declared.MessageContent.{MessageContent}
use Rattle.calls.specs.declared.refusal.Refusal.{Refusal}
use Rattle.calls.specs.declared.refusal.Refusal.TheVariants.{MessageMalformed}

-- one check after another: the second's reply where the first passes
unfoldable pub then_check : ℕ → ℕ → ℕ
then_check first second = cond (eqb first success) second first

module _ (state : List ℕ) (scratch : ℕ) (answers : List ℕ) where
  -- 3, 4, 5; `scratch` is its length
  unfoldable pub first_checks : ℕ
  first_checks =
      cond (not (state_ok state)) not_a_state
      (cond (ltb scratch (scratch_of state)) scratch_too_short
      (cond (not (table_ok (nodes state) answers)) answers_malformed success))

-- 6
unfoldable pub epoch_check : List ℕ → ℕ
epoch_check state = cond (ltb last_epoch (current_epoch state)) epoch_too_high success

-- 11, then 7 for content and proposer, then 7 for the item
unfoldable pub message_check : ℕ → ℕ → ℕ → ℕ → List ℕ → ℕ
message_check sender content proposer item state =
    cond (leb (nodes state) sender) unknown_sender
    (cond (not (content_ok (nodes state) content proposer)) message_malformed
    (cond (not (item_ok content item)) message_malformed success))

-- what a message's content and item are read as: 7 for all but the three contents, and for the item
abbrev pub content_told : ℕ → ℕ → Result MessageContent Refusal
content_told content item =
    cond (within broadcast_content share_content content && item_ok content item) (Ok (content_of content item)) (Err MessageMalformed)

abbrev pub propose_checks : List ℕ → ℕ → List ℕ → ℕ
propose_checks state scratch answers = then_check (first_checks state scratch answers) (epoch_check state)

abbrev pub message_checks : ℕ → ℕ → ℕ → ℕ → List ℕ → ℕ → List ℕ → ℕ
message_checks sender content proposer item state scratch answers =
    then_check (first_checks state scratch answers) (then_check (message_check sender content proposer item state) (epoch_check state))

-- 3 and 4
abbrev pub leaves_scratch : ℕ → Bool
leaves_scratch reply = within not_a_state scratch_too_short reply

-- what a call comes to by the reply of its checks: 3 and 4 leave scratch, the others zero it
unfoldable pub after_checks : ℕ → List ℕ → List ℕ → List ℕ → After → After
after_checks reply state scratch step run =
    cond (eqb reply success) run
    (cond (leaves_scratch reply) (after reply state scratch step) (after reply state (zeroed state scratch) step))
