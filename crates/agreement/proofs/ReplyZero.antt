-- What reply 0 says of a call, and that other replies below 20 leave the state. Assumes nothing.
use Rattle.std.proofs.Common.{ℕ, ◌+◌, ◌/◌, ◌<◌, arith, ◌≡◌, refl, sym, ap, ◌∙◌, List, [], ◌∷◌, Bool, true, false, cond, not, ◌&&◌, eqb, leb, ltb, length, eqb-true, leb-true, le-leb, lt-ltb}
use Rattle.std.proofs.lemmas.Bool.{and_parts, false≢true, not-false}
use Rattle.steps.specs.Answers.{Rec, tape_of}
use Rattle.steps.specs.Steps.{written}
use Rattle.steps.specs.Table.{table_ok}
use Rattle.steps.specs.Runs.{Verdict, going, refused, failed, number_of, Run}
use Rattle.state.specs.State.{nodes, current_epoch, state_ok}
use Rattle.work.specs.HoneyBadger.{propose, handle_message}
use Rattle.calls.specs.Calls.{After, zeroed, count_faults, is_end, conclude_as, conclude, propose_after, propose_call, content_ok, content_of, message_call, skip_reply}
use Rattle.engine.specs.Demand1.{is_refusal, one_of, propose_failures, propose_replies, message_failures, message_replies}
use Rattle.agreement.specs.History.{Call, turn_of, state_after, propose as proposing, message as messaging, skip as skipping}
use Rattle.work.proofs.FailureNumbers.{Meant, only_propose, only_message}
use Rattle.calls.proofs.CheckCases.{by_branch, by_propose, by_message}
use Rattle.engine.proofs.Demand1.{propose_promised, message_promised, skip_refusal, skip_replies}

-- a run that went on, whose chain was read to its end, and what the call left
pub record Passed (run : Run (List ℕ) (Unit {0})) (epoch : ℕ) (step : List ℕ) (r : After) : Type 0 where
  pub goes : run.verdict ≡ going tt
  pub rest : run.tape.rest ≡ []
  pub state : r.state ≡ count_faults run.state run.log
  pub written : r.step ≡ written step run.log epoch

at_end : (rs : List Rec) → is_end rs ≡ true → rs ≡ []
unfolding is_end
at_end [] e = refl
at_end (r ∷ rs) e = absurd (false≢true e)

conclude_passes : (failures : List ℕ) → one_of failures 0 ≡ false → (run : Run (List ℕ) (Unit {0})) (epoch : ℕ) (state scratch step : List ℕ) → Meant (one_of failures) run.verdict
    → (conclude run epoch state scratch step).reply ≡ 0 → Passed run epoch step (conclude run epoch state scratch step)
unfolding conclude_as number_of
conclude_passes failures not_0 run epoch state scratch step m = go run.verdict refl m
  where
    P : After → Type 0
    P r = r.reply ≡ 0 → Passed run epoch step r

    go : (v : Verdict (Unit {0})) → run.verdict ≡ v → Meant (one_of failures) v → P (conclude_as v run epoch state scratch step)
    go refused e m = λ z. absurd (omega arith)
    go (going x) e m =
        by_branch P (not (is_end run.tape.rest)) (λ _ z. absurd (omega arith))
        (λ i. by_branch P (ltb (length step / 4) (1 + length run.log)) (λ _ z. absurd (omega arith))
        (λ _ z. record { goes = e; rest = at_end run.tape.rest (not-false _ i); state = refl; written = refl }))
    go (failed error) e m =
        by_branch P (not (is_end run.tape.rest)) (λ _ z. absurd (omega arith))
        (λ i. by_branch P (ltb (length step / 4) 1) (λ _ z. absurd (omega arith))
        (λ _ z. absurd (false≢true (sym not_0 ∙ (ap (one_of failures) (sym z) ∙ m)))))

module _ (w scratch answers step : List ℕ) where
  pub propose_after_passes : (g : ℕ) → (propose_after w scratch answers step g).reply ≡ 0
      → (state_ok w ≡ true) × (table_ok (nodes w) answers ≡ true) × Passed (propose w (tape_of answers)) (current_epoch w) step (propose_after w scratch answers step g)
  unfolding one_of
  propose_after_passes g =
      by_propose P w scratch answers step (λ z. absurd (omega arith)) (λ z. absurd (omega arith)) (λ _ z. absurd (omega arith)) (λ _ z. absurd (omega arith))
      g (λ ne _ z. absurd (ne z))
      (λ c z. (
        c.ok,
        c.table,
        conclude_passes propose_failures refl (propose w (tape_of answers)) (current_epoch w) w (zeroed w scratch) step
            (only_propose (one_of propose_failures) refl refl refl refl refl w c.ok (tape_of answers)).fails z,
      ))
    where
      P : After → Type 0
      P r = r.reply ≡ 0 → (state_ok w ≡ true) × (table_ok (nodes w) answers ≡ true) × Passed (propose w (tape_of answers)) (current_epoch w) step r

  pub propose_passes : (propose_call w scratch answers step).reply ≡ 0
      → (state_ok w ≡ true) × (table_ok (nodes w) answers ≡ true) × Passed (propose w (tape_of answers)) (current_epoch w) step (propose_call w scratch answers step)
  propose_passes = propose_after_passes 0

  module _ (sender epoch content proposer item : ℕ) where
    pub message_passes : (message_call w scratch answers step sender epoch content proposer item).reply ≡ 0
        → (state_ok w ≡ true) × (table_ok (nodes w) answers ≡ true) × (sender < nodes w) × (content_ok (nodes w) content proposer ≡ true)
        × Passed (handle_message sender epoch proposer (content_of content item) w (tape_of answers)) epoch step
        (message_call w scratch answers step sender epoch content proposer item)
    unfolding one_of
    message_passes =
        by_message P w scratch answers step (λ z. absurd (omega arith)) (λ z. absurd (omega arith)) (λ _ z. absurd (omega arith)) (λ _ z. absurd (omega arith))
        (λ _ z. absurd (omega arith)) (λ _ z. absurd (omega arith)) sender epoch content proposer item
        (λ c d z. (
          c.ok,
          c.table,
          d.from_node,
          d.content_is,
          conclude_passes message_failures refl (handle_message sender epoch proposer (content_of content item) w (tape_of answers)) epoch w (zeroed w scratch) step
              (only_message (one_of message_failures) refl refl refl refl sender epoch proposer (content_of content item) w c.ok (tape_of answers)).fails z,
        ))
      where
        P : After → Type 0
        P r = r.reply ≡ 0 → (state_ok w ≡ true) × (table_ok (nodes w) answers ≡ true) × (sender < nodes w) × (content_ok (nodes w) content proposer ≡ true)
            × Passed (handle_message sender epoch proposer (content_of content item) w (tape_of answers)) epoch step r

-- OTHER REPLIES BELOW 20. All of a list's numbers below 20 are at most 12
unfoldable pub all_low : List ℕ → Bool
all_low [] = true
all_low (y ∷ ys) = cond (ltb y 20) (leb y 12) true && all_low ys

is_refusal_lem : (ys : List ℕ) → all_low ys ≡ true → (x : ℕ) → one_of ys x ≡ true → x < 20 → (x ≡ 0 → ⊥) → is_refusal x ≡ true
unfolding one_of all_low
is_refusal_lem [] s x e l ne = absurd (false≢true e)
is_refusal_lem (y ∷ ys) s x e l ne = go (eqb x y) refl e (λ k. is_refusal_lem ys s₂.1 x k l ne)
  where
    s₂ : (cond (ltb y 20) (leb y 12) true ≡ true) × (all_low ys ≡ true)
    s₂ = and_parts (cond (ltb y 20) (leb y 12) true) (all_low ys) s

    go : (t : Bool) → eqb x y ≡ t → cond t true (one_of ys x) ≡ true → (one_of ys x ≡ true → is_refusal x ≡ true) → is_refusal x ≡ true
    go true z k ih =
        let same : x ≡ y = eqb-true x y z in
        let low : leb y 12 ≡ true = rw (lt-ltb y 20 (omega arith)) at s₂.0 in
        rw (le-leb 1 x (omega arith), le-leb x 12 (omega (arith, leb-true y 12 low)))
    go false z k ih = ih k

pub other_leaves : (w : List ℕ) (c : Call) → (turn_of w c).reply < 20 → ((turn_of w c).reply ≡ 0 → ⊥) → state_after w c ≡ w
unfolding turn_of state_after all_low
other_leaves w (proposing scratch answers step) l ne =
    let p = propose_promised w scratch answers step in
    (p.refusal (is_refusal_lem propose_replies refl _ p.listed l ne)).0
other_leaves w (messaging sender epoch content proposer item scratch answers step) l ne =
    let p = message_promised w scratch answers step sender epoch content proposer item in
    (p.refusal (is_refusal_lem message_replies refl _ p.listed l ne)).0
other_leaves w (skipping target) l ne = skip_refusal target w (is_refusal_lem (0 ∷ 3 ∷ 12 ∷ []) refl (skip_reply target w) (skip_replies target w) l ne)
