-- A turn of the loop over batches, from what trying to hand one out left. For the proofs of the code. Assumes nothing.
use Rattle.std.proofs.Common.{ℕ, suc, ◌+◌, ◌-◌, ◌<◌, arith, ◌≡◌, refl, sym, ap, ◌∙◌, List, Bool, true, false, eq-eqb, ne_eqb, Err}
use Rattle.steps.specs.Answers.{Tape}
use Rattle.steps.specs.Steps.{Out, put_all}
use Rattle.steps.specs.declared.kinds.Failure.{Failure}
use Rattle.steps.specs.declared.kinds.Stop.{Stop}
use Rattle.steps.specs.declared.kinds.Stop.TheVariants.{NotNext, Failed}
use Rattle.steps.specs.Kinds.{verdict_of}
use Rattle.steps.specs.Runs.{Verdict, going, refused, failed, Run, Left, ends, onward, leaves}
use Rattle.steps.proofs.RunLaws.{onward_go, onward_refused, onward_failed}
use Rattle.epochwords.specs.Batch.{is_ready, output_batch}
use Rattle.state.specs.State.{epoch_words}
use Rattle.work.specs.Work.{batches_from, beside}
use Rattle.work.specs.Shape.{try_output_batch}
use Rattle.work.proofs.RunLeaves.{turn_over, turn_goes, turn_stops}

-- THE WORDS OF AN EPOCH: the call's own stand apart, those of the others in the state
pub beside_own : (w : List ℕ) (e : ℕ) (x : List ℕ) (d : ℕ) → d ≡ e → beside w e x d ≡ x
unfolding beside
beside_own w e x d z = rw (eq-eqb d e z)

pub beside_other : (w : List ℕ) (e : ℕ) (x : List ℕ) (d : ℕ) → (d ≡ e → ⊥) → beside w e x d ≡ epoch_words w d
unfolding beside
beside_other w e x d z = rw (ne_eqb d e z)

-- what a verdict of trying is for the loop, where it does not go on: an epoch that is not ready ends it
abbrev stops : Verdict Bool → Verdict (Unit {0})
stops (going b) = going tt
stops refused = refused
stops (failed c) = failed c

-- d is what trying left
module _ (n : ℕ) (words : ℕ → List ℕ) (m e : ℕ) (p : Tape) (o : Out) (d : Left (List ℕ) Bool) (left : d ≡ leaves o (try_output_batch n e (words e) p)) where
  -- it handed out a batch, and the loop goes on with the next epoch; or the loop ends here
  abbrev Turn : Type 0
  Turn = (d.verdict ≡ going true → leaves d.out (batches_from n words m (e + 1) d.tape) ≡ leaves o (batches_from n words (suc m) e p))
      × ((d.verdict ≡ going true → ⊥) → record { state = e; verdict = stops d.verdict; tape = d.tape; out = d.out } ≡ leaves o (batches_from n words (suc m) e p))

  abbrev r : Run (List ℕ) (Unit {0})
  r = output_batch n e (words e) p

  not_ready : is_ready n (words e) ≡ false → Turn
  unfolding try_output_batch put_all
  not_ready f =
      let g : d ≡ leaves o (ends (going false) (words e) p) = left ∙ rw f in
      ((λ z. let y : ◌≡◌ {A = ℕ} 0 1 = cc in absurd (omega arith)), (λ _. rw g (turn_over n words m e p o f)))

  is_ready_lem : is_ready n (words e) ≡ true → (v : Verdict (Unit {0})) → r.verdict ≡ v → Turn
  unfolding try_output_batch put_all
  is_ready_lem f (going tt) z =
      let g : d ≡ leaves o (onward r (λ _ w q. ends (going true) w q)) = left ∙ rw f in
      let k : d ≡ leaves (put_all o r.log) (ends (going true) r.state r.tape) = g ∙ sym (onward_go (leaves o r) o r (λ _ w q. ends (going true) w q) refl tt z) in
      ((λ _. rw k (turn_goes n words m e p o (leaves o r) refl f z)), (λ never. absurd (never (ap (λ x. x.verdict) k))))
  is_ready_lem f refused z =
      let g : d ≡ leaves o (onward r (λ _ w q. ends (going true) w q)) = left ∙ rw f in
      let k : d ≡ record { state = r.state; verdict = refused; tape = r.tape; out = put_all o r.log } = g ∙ sym (onward_refused (leaves o r) o r (λ _ w q. ends (going true) w q) refl z) in (
        (λ y. let u : ◌≡◌ {A = ℕ} 0 1 = cc in absurd (omega arith)),
        (λ _. rw (k, ← z) (turn_stops n words m e p o (leaves o r) refl f (λ a y. let u : ◌≡◌ {A = ℕ} 0 1 = cc in omega arith))),
      )
  is_ready_lem f (failed c) z =
      let g : d ≡ leaves o (onward r (λ _ w q. ends (going true) w q)) = left ∙ rw f in
      let k : d ≡ record { state = r.state; verdict = failed c; tape = r.tape; out = put_all o r.log } = g ∙ sym (onward_failed (leaves o r) o r (λ _ w q. ends (going true) w q) refl c z) in (
        (λ y. let u : ◌≡◌ {A = ℕ} 0 1 = cc in absurd (omega arith)),
        (λ _. rw (k, ← z) (turn_stops n words m e p o (leaves o r) refl f (λ a y. let u : ◌≡◌ {A = ℕ} 0 1 = cc in omega arith))),
      )

  turn : Turn
  turn = go (is_ready n (words e)) refl
    where
      go : (x : Bool) → is_ready n (words e) ≡ x → Turn
      go true f = is_ready_lem f r.verdict refl
      go false f = not_ready f

-- THE LOOP's turns go from the current epoch to the one behind the last that lives: `turn` in the code's counting
module _ (n : ℕ) (words : ℕ → List ℕ) (behind e : ℕ) (p : Tape) (o : Out) (d : Left (List ℕ) Bool) (left : d ≡ leaves o (try_output_batch n e (words e) p)) (more : e < behind) where
  one_more : behind - e ≡ suc (behind - (e + 1))
  one_more = omega arith

  -- a batch went out
  pub tried_goes : d.verdict ≡ going true → leaves d.out (batches_from n words (behind - (e + 1)) (e + 1) d.tape) ≡ leaves o (batches_from n words (behind - e) e p)
  tried_goes z = rw one_more ((turn n words (behind - (e + 1)) e p o d left).0 z)

  -- the epoch is not ready
  pub tried_over : d.verdict ≡ going false → record { state = e; verdict = going tt; tape = d.tape; out = d.out } ≡ leaves o (batches_from n words (behind - e) e p)
  tried_over z = rw one_more (rw z at ((turn n words (behind - (e + 1)) e p o d left).1 (λ y. absurd (cc))))

  -- handing out its batch ended the run
  pub tried_ends : (f : Stop Failure) → d.verdict ≡ verdict_of {A = Bool} (Err f)
      → record { state = e; verdict = verdict_of {A = Unit {0}} (Err f); tape = d.tape; out = d.out } ≡ leaves o (batches_from n words (behind - e) e p)
  tried_ends NotNext z = rw one_more (rw z at ((turn n words (behind - (e + 1)) e p o d left).1 (λ y. absurd (cc))))
  tried_ends (Failed c) z = rw one_more (rw z at ((turn n words (behind - (e + 1)) e p o d left).1 (λ y. absurd (cc))))

-- no turn is left
pub none_left : (n : ℕ) (words : ℕ → List ℕ) (m e : ℕ) (p : Tape) → m ≡ 0 → ends (going tt) e p ≡ batches_from n words m e p
unfolding batches_from
none_left n words m e p z = rw z
