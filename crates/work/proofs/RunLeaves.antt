-- What the functions of a run leave, put together: one turn of the loop over batches, and an epoch's call before it. For the proofs of the code.
-- Assumes nothing.
use Rattle.std.proofs.Common.{ℕ, suc, ◌+◌, ◌≡◌, sym, ap, ◌∙◌, List, true, false}
use Rattle.steps.specs.Answers.{Tape}
use Rattle.steps.specs.Steps.{Out}
use Rattle.steps.specs.Runs.{going, Run, Left, ends, inside, leaves}
use Rattle.steps.proofs.RunLaws.{onward_go, onward_stop}
use Rattle.steps.proofs.RunsInParts.{placed, leaves_inside}
use Rattle.epochwords.specs.Batch.{is_ready, output_batch}
use Rattle.state.specs.State.{nodes, ahead, current_epoch, epoch_words}
use Rattle.work.specs.Work.{epoch_call, batches_from, Worked, worked, beside, work_in}
use Rattle.work.proofs.LoopOnlyReads.{batches_ready, batches_over}

-- A TURN OF THE LOOP, m are left after it
module _ (n : ℕ) (words : ℕ → List ℕ) (m e : ℕ) (p : Tape) (o : Out) where
  -- the epoch is not ready
  pub turn_over : is_ready n (words e) ≡ false → leaves o (ends (going tt) e p) ≡ leaves o (batches_from n words (suc m) e p)
  turn_over t = ap (leaves o) (sym (batches_over n words m e p t))

  -- it is, and d is what handing out its batch left
  module _ (d : Left (List ℕ) (Unit {0})) (left : d ≡ leaves o (output_batch n e (words e) p)) (ready : is_ready n (words e) ≡ true) where
    next : Unit {0} → ℕ → Tape → Run ℕ (Unit {0})
    next _ e q = batches_from n words m (e + 1) q

    pub turn_goes : d.verdict ≡ going tt → leaves d.out (batches_from n words m (e + 1) d.tape) ≡ leaves o (batches_from n words (suc m) e p)
    unfolding next
    turn_goes z =
        onward_go (placed (λ _. e) d) o (inside (λ _. e) (output_batch n e (words e) p)) next (leaves_inside (λ _. e) d o _ left) tt z
        ∙ ap (leaves o) (sym (batches_ready n words m e p ready))

    pub turn_stops : ((a : Unit {0}) → d.verdict ≡ going a → ⊥) → placed (λ _. e) d ≡ leaves o (batches_from n words (suc m) e p)
    unfolding next
    turn_stops never =
        onward_stop (placed (λ _. e) d) o (inside (λ _. e) (output_batch n e (words e) p)) next (leaves_inside (λ _. e) d o _ left) never
        ∙ ap (leaves o) (sym (batches_ready n words m e p ready))

-- THE RUN, d is what the epoch's call left
module _ (w : List ℕ) (e : ℕ) (body : List ℕ → Tape → Run (List ℕ) (Unit {0})) (p : Tape) (o : Out)
    (d : Left (List ℕ) (Unit {0})) (left : d ≡ leaves o (epoch_call (nodes w) body (epoch_words w e) p)) where
  before : List ℕ → Worked
  before x = worked x (current_epoch w)

  loop : Unit {0} → Worked → Tape → Run Worked (Unit {0})
  loop _ s q = inside (worked s.words) (batches_from (nodes w) (beside w e s.words) (ahead w + 1) s.next q)

  -- it went on, and b is what the loop left
  pub work_goes : d.verdict ≡ going tt
      → (b : Left ℕ (Unit {0})) → b ≡ leaves d.out (batches_from (nodes w) (beside w e d.state) (ahead w + 1) (current_epoch w) d.tape)
      → placed (worked d.state) b ≡ leaves o (work_in w e body p)
  unfolding work_in before loop
  work_goes z b done =
      leaves_inside (worked d.state) b d.out _ done
      ∙ onward_go (placed before d) o (inside before (epoch_call (nodes w) body (epoch_words w e) p)) loop (leaves_inside before d o _ left) tt z

  pub work_stops : ((a : Unit {0}) → d.verdict ≡ going a → ⊥) → placed (λ x. worked x (current_epoch w)) d ≡ leaves o (work_in w e body p)
  unfolding work_in before loop
  work_stops never = onward_stop (placed before d) o (inside before (epoch_call (nodes w) body (epoch_words w e) p)) loop (leaves_inside before d o _ left) never
