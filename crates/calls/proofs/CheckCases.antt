-- The checks of propose and message, gone through once: what holds of each refusal, and of the run after them, holds of the call. Assumes nothing.
use Rattle.std.proofs.Common.{ℕ, ◌≤◌, ◌<◌, ◌≡◌, refl, List, Bool, true, false, cond, not, eqb, leb, ltb, length, ltb-false, leb-false}
use Rattle.std.proofs.lemmas.Bool.{eqb-false, not-true, not-false}
use Rattle.steps.specs.Numbers.{last_epoch}
use Rattle.steps.specs.Answers.{tape_of}
use Rattle.steps.specs.Table.{table_ok}
use Rattle.state.specs.State.{nodes, current_epoch, scratch_of, state_ok}
use Rattle.work.specs.HoneyBadger.{propose, handle_message}
use Rattle.calls.specs.Calls.{After, after, zeroed, conclude, propose_after, content_ok, item_ok, content_of, message_call}

-- by a test's two outcomes
pub by_branch : (P : After → Type 0) (t : Bool) {x y : After} → (t ≡ true → P x) → (t ≡ false → P y) → P (cond t x y)
by_branch P true h k = h refl
by_branch P false h k = k refl

-- what 3, 4, 5 and 6 let pass
pub record Checked (state scratch answers : List ℕ) : Type 0 where
  pub ok : state_ok state ≡ true
  pub room : scratch_of state ≤ length scratch
  pub table : table_ok (nodes state) answers ≡ true
  pub epoch : current_epoch state ≤ last_epoch

-- what 11 and 7 let pass
pub record MessageOk (state : List ℕ) (sender content proposer item : ℕ) : Type 0 where
  pub from_node : sender < nodes state
  pub content_is : content_ok (nodes state) content proposer ≡ true
  pub item_is : item_ok content item ≡ true

module _ (P : After → Type 0) (state scratch answers step : List ℕ) where
  -- a refusal with the number k after 4 has passed: the scratch is zeroed
  abbrev Turned : ℕ → Type 0
  Turned k = scratch_of state ≤ length scratch → P (after k state (zeroed state scratch) step)

  -- 3 and 4 leave all words
  module _ (three : P (after 3 state scratch step)) (four : P (after 4 state scratch step)) (five : Turned 5) (six : Turned 6) where
    -- propose, with a further check's reply g
    pub by_propose : (g : ℕ) → ((g ≡ 0 → ⊥) → Turned g)
        → (Checked state scratch answers → P (conclude (propose state (tape_of answers)) (current_epoch state) state (zeroed state scratch) step))
        → P (propose_after state scratch answers step g)
    unfolding propose_after
    by_propose g further run =
        by_branch P (not (state_ok state)) (λ _. three)
        (λ a. by_branch P (ltb (length scratch) (scratch_of state)) (λ _. four)
        (λ b. by_branch P (not (table_ok (nodes state) answers)) (λ _. five (ltb-false _ _ b))
        (λ c. by_branch P (ltb last_epoch (current_epoch state)) (λ _. six (ltb-false _ _ b))
        (λ d. by_branch P (not (eqb g 0)) (λ e. further (eqb-false g 0 (not-true _ e)) (ltb-false _ _ b))
        (λ _. run (record { ok = not-false _ a; room = ltb-false _ _ b; table = not-false _ c; epoch = ltb-false _ _ d }))))))

    pub by_message : Turned 11 → Turned 7 → (sender epoch content proposer item : ℕ)
        → (Checked state scratch answers → MessageOk state sender content proposer item
        → P (conclude (handle_message sender epoch proposer (content_of content item) state (tape_of answers)) epoch state (zeroed state scratch) step))
        → P (message_call state scratch answers step sender epoch content proposer item)
    unfolding message_call
    by_message eleven seven sender epoch content proposer item run =
        by_branch P (not (state_ok state)) (λ _. three)
        (λ a. by_branch P (ltb (length scratch) (scratch_of state)) (λ _. four)
        (λ b. by_branch P (not (table_ok (nodes state) answers)) (λ _. five (ltb-false _ _ b))
        (λ c. by_branch P (leb (nodes state) sender) (λ _. eleven (ltb-false _ _ b))
        (λ s. by_branch P (not (content_ok (nodes state) content proposer)) (λ _. seven (ltb-false _ _ b))
        (λ k. by_branch P (not (item_ok content item)) (λ _. seven (ltb-false _ _ b))
        (λ i. by_branch P (ltb last_epoch (current_epoch state)) (λ _. six (ltb-false _ _ b))
        (λ d. run (record { ok = not-false _ a; room = ltb-false _ _ b; table = not-false _ c; epoch = ltb-false _ _ d })
        (record { from_node = leb-false _ _ s; content_is = not-false _ k; item_is = not-false _ i }))))))))
