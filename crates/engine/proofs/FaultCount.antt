-- "the fault count, all faults in successful steps since creation, stopping at 2^32−1": a call with reply 0 adds its step's faults, and no other call
-- or skip changes it. Assumes nothing.
use Rattle.std.proofs.Common.{ℕ, ◌+◌, ◌/◌, arith, ◌≡◌, refl, List, Bool, true, false, cond, not, eqb, leb, ltb, length, set, get_or-set_same}
use Rattle.steps.specs.Numbers.{last_epoch, fault_limit}
use Rattle.steps.specs.Answers.{tape_of}
use Rattle.steps.specs.Steps.{Entry, faults}
use Rattle.steps.specs.Runs.{Verdict, going, refused, failed, number_of, Run}
use Rattle.state.specs.State.{nodes, ahead, fault_count, faults_at, state_ok}
use Rattle.work.specs.HoneyBadger.{propose, handle_message, skip_to_epoch}
use Rattle.calls.specs.Calls.{After, count_faults, is_end, conclude_as, conclude, propose_after, content_of, message_call, skip_reply, skip_state}
use Rattle.state.proofs.Window.{Shaped, header_first}
use Rattle.state.proofs.RangesState.{shaped}
use Rattle.work.proofs.Skips.{skip_head}
use Rattle.calls.proofs.CheckCases.{by_branch, by_propose, by_message}
use Rattle.work.proofs.RunBesideState.{propose_counts, message_counts}

-- a successful step's faults are added, up to the limit
pub count_of : (n f : ℕ) (w : List ℕ) → Shaped n f w → (log : List Entry)
    → fault_count (count_faults w log) ≡ cond (leb (fault_count w + length (faults log)) fault_limit) (fault_count w + length (faults log)) fault_limit
unfolding count_faults
count_of n f w h log = go (leb (fault_count w + length (faults log)) fault_limit)
  where
    go : (t : Bool) → fault_count (cond t (set w faults_at (fault_count w + length (faults log))) (set w faults_at fault_limit)) ≡ cond t (fault_count w + length (faults log)) fault_limit
    go true = get_or-set_same w faults_at (fault_count w + length (faults log)) 0 (omega (arith, h.long, header_first n))
    go false = get_or-set_same w faults_at fault_limit 0 (omega (arith, h.long, header_first n))

module _ (state : List ℕ) where
  -- a call that left r: with another reply than 0 the count stays
  abbrev Kept : After → Type 0
  Kept r = (r.reply ≡ 0 → ⊥) → fault_count r.state ≡ fault_count state

  conclude_kept : (run : Run (List ℕ) (Unit {0})) (epoch : ℕ) (scratch step : List ℕ) → fault_count run.state ≡ fault_count state
      → Kept (conclude run epoch state scratch step)
  unfolding conclude_as number_of
  conclude_kept run epoch scratch step h = go run.verdict
    where
      go : (v : Verdict (Unit {0})) → Kept (conclude_as v run epoch state scratch step)
      go refused = λ _. refl
      go (going x) =
          by_branch Kept (not (is_end run.tape.rest)) (λ _ _. refl)
          (λ _. by_branch Kept (ltb (length step / 4) (1 + length run.log)) (λ _ _. refl) (λ _ ne. absurd (ne refl)))
      go (failed error) =
          by_branch Kept (not (is_end run.tape.rest)) (λ _ _. refl) (λ _. by_branch Kept (ltb (length step / 4) 1) (λ _ _. refl) (λ _ _. h))

  module _ (scratch answers step : List ℕ) where
    -- g is the reply of a further check, 0 for propose
    pub propose_count : (g : ℕ) → Kept (propose_after state scratch answers step g)
    propose_count g =
        by_propose Kept state scratch answers step (λ _. refl) (λ _. refl) (λ _ _. refl) (λ _ _. refl) g (λ _ _ _. refl)
        (λ c. conclude_kept (propose state (tape_of answers)) _ _ step (propose_counts state c.ok (tape_of answers)))

    pub message_count : (sender epoch content proposer item : ℕ) → Kept (message_call state scratch answers step sender epoch content proposer item)
    message_count sender epoch content proposer item =
        by_message Kept state scratch answers step (λ _. refl) (λ _. refl) (λ _ _. refl) (λ _ _. refl) (λ _ _. refl) (λ _ _. refl) sender epoch content proposer item
        (λ c _. conclude_kept (handle_message sender epoch proposer (content_of content item) state (tape_of answers)) epoch _ step
        (message_counts state c.ok (tape_of answers) sender epoch proposer (content_of content item)))

  pub skip_count : (target : ℕ) → fault_count (skip_state target state) ≡ fault_count state
  unfolding skip_state skip_reply
  skip_count target = go (state_ok state) refl (ltb last_epoch target)
    where
      go : (s : Bool) → state_ok state ≡ s → (t : Bool)
          → fault_count (cond (eqb (cond (not s) 3 (cond t 12 0)) 0) (skip_to_epoch target state) state) ≡ fault_count state
      go true ok true = refl
      go true ok false = skip_head (nodes state) (ahead state) target state (shaped state ok) faults_at (omega arith) (omega arith) (omega arith)
      go false ok t = refl
