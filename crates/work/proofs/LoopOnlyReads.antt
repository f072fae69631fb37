-- The loop over batches is a loop that only reads, and one skip. Assumes nothing.
use Rattle.std.proofs.Common.{ℕ, zero, suc, ◌+◌, ◌≤◌, ◌<◌, arith, ◌≡◌, refl, sym, ap, ◌∙◌, List, Bool, true, false}
use Rattle.steps.specs.Answers.{Tape}
use Rattle.steps.specs.Runs.{Verdict, going, refused, failed, Run, ends, before, onward_as, onward, inside}
use Rattle.epochwords.specs.Batch.{is_ready, output_batch}
use Rattle.state.specs.State.{nodes, ahead, current_epoch, epoch_words, with_epoch, state_ok}
use Rattle.work.specs.HoneyBadger.{update_epoch, in_epoch, try_output_batches, skip_to_epoch}
use Rattle.work.specs.Work.{batches_from}
use Rattle.steps.proofs.FailureNumbers.{Only, failing_stateless}
use Rattle.work.proofs.Walk.{any_turns, batches_keep}
use Rattle.work.proofs.Skips.{skip_stays}
use Rattle.state.proofs.Window.{Shaped, with_own}
use Rattle.work.proofs.Updates.{update_shaped, update_current, update_kept}
use Rattle.state.proofs.RangesState.{shaped}
use Rattle.work.proofs.ClearingIsSkipping.{skip_update}
use Rattle.subset.specs.Words.{record_length}
use Rattle.steps.proofs.Logic.{anything}
use Rattle.steps.proofs.StateKept.{holding}
use Rattle.epochwords.proofs.Walk.{any_batches, batch_keeps}

-- a batch changes no word of its epoch
pub same_batch : (n e : ℕ) (x : List ℕ) (t : Tape) → (output_batch n e x t).state ≡ x
same_batch n e x t =
    batch_keeps anything (holding (λ y. y ≡ x) (λ i. Unit {0})) any_batches (record_length n) n e x t refl

-- BATCHES. Each that goes out moves the run on by one epoch
pub record Between (first last : ℕ) (r : Run ℕ (Unit {0})) : Type 0 where
  pub low : first ≤ r.state
  pub high : r.state ≤ last

module _ (n : ℕ) (words : ℕ → List ℕ) where
  -- a turn
  pub batches_ready : (m e : ℕ) (p : Tape) → is_ready n (words e) ≡ true
      → batches_from n words (suc m) e p ≡ onward (inside (λ _. e) (output_batch n e (words e) p)) (λ _ e q. batches_from n words m (e + 1) q)
  unfolding batches_from
  batches_ready m e p t = rw (t, batches_from)

  pub batches_over : (m e : ℕ) (p : Tape) → is_ready n (words e) ≡ false → batches_from n words (suc m) e p ≡ ends (going tt) e p
  unfolding batches_from
  batches_over m e p t = rw (t, batches_from)

  pub next_between : (m e : ℕ) (p : Tape) → Between e (e + m) (batches_from n words m e p)
  unfolding batches_from onward onward_as
  next_between zero e p = record { low = omega arith; high = omega arith }
  next_between (suc m) e p = go (is_ready n (words e)) r.verdict (next_between m (e + 1) r.tape)
    where
      r : Run ℕ (Unit {0})
      r = inside (λ _. e) (output_batch n e (words e) p)

      k : Unit {0} → ℕ → Tape → Run ℕ (Unit {0})
      k _ e q = batches_from n words m (e + 1) q

      go : (t : Bool) (v : Verdict (Unit {0})) → Between (e + 1) (e + 1 + m) (k tt e r.tape)
          → Between e (e + suc m) (elim t [ true ↦ onward_as v r k | false ↦ ends (going tt) e p ])
      go true (going x) h = record { low = omega arith; high = omega arith }
      go true refused h = record { low = omega arith; high = omega arith }
      go true (failed c) h = record { low = omega arith; high = omega arith }
      go false v h = record { low = omega arith; high = omega arith }

  -- and the loop does not fail
  pub batches_never_fail : (m e : ℕ) (p : Tape) → Only (λ _. false) (batches_from n words m e p)
  batches_never_fail m e p = batches_keep _ _ _ n words (any_turns (failing_stateless (λ _. false)) (record { reads = tt; faults = λ p. tt; outputs = λ k a b e. tt }) words) m e p

-- THE LOOP, from the current epoch on, over any `words` that are the state's in the window
module _ (n f : ℕ) (words : ℕ → List ℕ) where
  pub batches_apart : (m : ℕ) (w : List ℕ) → Shaped n f w → m ≤ f + 1 → ((e : ℕ) → current_epoch w ≤ e → e < current_epoch w + m → words e ≡ epoch_words w e)
      → (p : Tape) → try_output_batches m w p ≡ inside (λ e. skip_to_epoch e w) (batches_from n words m (current_epoch w) p)
  unfolding try_output_batches batches_from in_epoch onward onward_as
  batches_apart zero w h l same p = rw (skip_stays (current_epoch w) w (omega arith))
  batches_apart (suc m) w h l same p =
      ap (λ (k : ℕ). turn k (epoch_words w c)) h.nodes
      ∙ (ap (turn n) (sym here)
      ∙ go (is_ready n (words c)) b.verdict (later (batches_apart m (update_epoch w) (update_shaped n f w h) (omega arith) still b.tape)))
    where
      c : ℕ
      c = current_epoch w

      -- the definition's first turn, over the number of nodes and the current epoch's words
      turn : ℕ → List ℕ → Run (List ℕ) (Unit {0})
      turn k x =
          elim (is_ready k x) [
            | true ↦ onward (inside (with_epoch w c) (output_batch k c x p)) (λ _ w q. try_output_batches m (update_epoch w) q)
            | false ↦ ends (going tt) w p
          ]

      here : words c ≡ epoch_words w c
      here = same c (omega arith) (omega arith)

      b : Run (List ℕ) (Unit {0})
      b = output_batch n c (words c) p

      kept : with_epoch w c b.state ≡ w
      kept = rw (same_batch n c (words c) p, here) (with_own w c)

      still : (e : ℕ) → current_epoch (update_epoch w) ≤ e → e < current_epoch (update_epoch w) + m → words e ≡ epoch_words (update_epoch w) e
      still e i j =
          let now = update_current n f w h in
          same e (omega arith) (omega arith) ∙ sym (update_kept n f w h e (omega arith) (omega arith))

      later : try_output_batches m (update_epoch w) b.tape ≡ inside (λ e. skip_to_epoch e (update_epoch w)) (batches_from n words m (current_epoch (update_epoch w)) b.tape)
          → try_output_batches m (update_epoch w) b.tape ≡ inside (λ e. skip_to_epoch e w) (batches_from n words m (c + 1) b.tape)
      later ih =
          let z = next_between n words m (c + 1) b.tape in
          ih ∙ rw (update_current n f w h) (ap (λ (v : List ℕ). inside (λ _. v) (batches_from n words m (c + 1) b.tape)) (skip_update n f w h (batches_from n words m (c + 1) b.tape).state (omega arith) (omega arith)))

      go : (t : Bool) (v : Verdict (Unit {0})) → try_output_batches m (update_epoch w) b.tape ≡ inside (λ e. skip_to_epoch e w) (batches_from n words m (c + 1) b.tape)
          → ◌≡◌ {A = Run (List ℕ) (Unit {0})}
          (elim t [
            | true ↦ onward_as v (inside (with_epoch w c) b) (λ _ w q. try_output_batches m (update_epoch w) q)
            | false ↦ ends (going tt) w p
          ])
          (inside (λ e. skip_to_epoch e w) (elim t [
            | true ↦ onward_as v (inside (λ _. c) b) (λ _ e q. batches_from n words m (e + 1) q)
            | false ↦ ends (going tt) c p
          ]))
      go true (going x) ih = ap (before b.log) (rw kept ih)
      go true refused ih = rw (kept, skip_stays c w (omega arith))
      go true (failed x) ih = rw (kept, skip_stays c w (omega arith))
      go false v ih = rw (skip_stays c w (omega arith))

-- of a state that keeps the range rule
pub output_apart : (w : List ℕ) → state_ok w ≡ true → (p : Tape)
    → try_output_batches (ahead w + 1) w p ≡ inside (λ e. skip_to_epoch e w) (batches_from (nodes w) (epoch_words w) (ahead w + 1) (current_epoch w) p)
output_apart w ok p = batches_apart (nodes w) (ahead w) (epoch_words w) (ahead w + 1) w (shaped w ok) (omega arith) (λ e _ _. refl) p
