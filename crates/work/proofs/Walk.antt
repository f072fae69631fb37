-- ONE WALK of a run beside the state, for every property of runs that has the rules. Assumes nothing.
use Rattle.std.proofs.Common.{ℕ, zero, suc, ◌+◌, ◌*◌, List, Bool, true, false, None, arith, eqb}
use Rattle.steps.specs.Answers.{Tape}
use Rattle.steps.specs.Runs.{going, Run, ends, inside}
use Rattle.steps.proofs.Logic.{hand, nothing, Terms, Logic, here, there, test, fail, move, next, Stateless, free, elsewhere}
use Rattle.subset.specs.Words.{record_length}
use Rattle.epochwords.specs.Words.{is_vacant}
use Rattle.epochwords.specs.Batch.{is_ready, output_batch}
use Rattle.epochwords.proofs.Walk.{Batches, batch_keeps}
use Rattle.epoch.specs.Epoch.{new_epoch}
use Rattle.state.specs.State.{nodes, ahead, current_epoch, epoch_words}
use Rattle.work.specs.Work.{built, epoch_call, batches_from, Worked, worked, beside, work_in}

-- THE WORDS OF ONE EPOCH: it is built where it is vacant
pub record Builds (T : Terms) (L : Logic T (List ℕ)) (n : ℕ) : Type 0 where
  pub reads : T.Kind 1
  pub number : T.Number 20
  pub new : (x : List ℕ) → L.Step None x None (new_epoch n)

module _ (T : Terms) (L : Logic T (List ℕ)) (n : ℕ) (R : Builds T L n) where
  pub built_keeps : (m : ℕ) (x : List ℕ) (p : Tape) → L.Good _ nothing (hand None m) x p (built n x p)
  unfolding built
  built_keeps m x p =
      test L (is_vacant x)
      (λ _. L.asks _ _ None m 1 x p _ R.reads (λ a b q _. test L (eqb a 0) (λ _. fail L R.number) (λ _. there L tt x _ q (R.new x))))
      (λ _. here L tt x p)

  -- then its call runs, which may write m entries
  pub call_keeps : (m : ℕ) (body : List ℕ → Tape → Run (List ℕ) (Unit {0})) → ((x : List ℕ) (q : Tape) → L.Good _ nothing (hand None m) x q (body x q)) → (x : List ℕ) (p : Tape)
      → L.Good _ nothing (hand None m) x p (epoch_call n body x p)
  unfolding epoch_call
  call_keeps m body f x p = next L {f = λ _. hand None m} (L.spares _ 0 m m x p _ (omega arith) (built_keeps 0 x p)) (λ _ x q. f x q)

-- BATCHES: a batch's run on the words of epoch e, which it does not change, is one of the number e; then e + 1 is next
pub record Turns (T : Terms) (L : Logic T (List ℕ)) (E : Logic T ℕ) (words : ℕ → List ℕ) : Type 0 where
  pub batch : Batches T
  pub out : (e m : ℕ) (p : Tape) (r : Run (List ℕ) (Unit {0})) → L.Good _ nothing (hand None m) (words e) p r → E.Good _ nothing (hand None m) e p (inside (λ _. e) r)
  pub next : (e : ℕ) → E.Step None e None (e + 1)

module _ (T : Terms) (L : Logic T (List ℕ)) (E : Logic T ℕ) (n : ℕ) (words : ℕ → List ℕ) (R : Turns T L E words) where
  -- each writes its record and n entries, besides the faults
  pub batches_keep : (m e : ℕ) (p : Tape) → E.Good _ nothing (hand None (m * (1 + n))) e p (batches_from n words m e p)
  unfolding batches_from
  batches_keep zero e p = here E tt e p
  batches_keep (suc m) e p = by (is_ready n (words e)) (next E {f = λ _. hand None (m * (1 + n))} first (λ _ e q. move E (R.next e) (batches_keep m (e + 1) q)))
    where
      first : E.Good (Unit {0}) (λ _. hand None (m * (1 + n))) (hand None (suc m * (1 + n))) e p (inside (λ _. e) (output_batch n e (words e) p))
      first = E.spares _ (1 + n) (m * (1 + n)) (suc m * (1 + n)) e p _ (omega arith) (R.out e (1 + n) p _ (batch_keeps T L R.batch (record_length n) n e (words e) p))

      by : (x : Bool) {r : Run ℕ (Unit {0})} → E.Good _ nothing (hand None (suc m * (1 + n))) e p r
          → E.Good (Unit {0}) nothing (hand None (suc m * (1 + n))) e p (elim x [ true ↦ r | false ↦ ends (going tt) e p ])
      by true h = h
      by false h = here E tt e p

-- THE RUN: what the epoch's call and the batches behind it leave is its state
pub record Works (T : Terms) (L : Logic T (List ℕ)) (E : Logic T ℕ) (W : Logic T Worked) (w : List ℕ) (e : ℕ) : Type 0 where
  pub builds : Builds T L (nodes w)
  pub turns : (x : List ℕ) → Turns T L E (beside w e x)
  pub called : (m : ℕ) (p : Tape) (r : Run (List ℕ) (Unit {0})) → L.Good _ nothing (hand None m) (epoch_words w e) p r
      → W.Good _ nothing (hand None m) (worked (epoch_words w e) (current_epoch w)) p (inside (λ x. worked x (current_epoch w)) r)
  pub handed : (m : ℕ) (s : Worked) (p : Tape) (r : Run ℕ (Unit {0})) → E.Good _ nothing (hand None m) s.next p r → W.Good _ nothing (hand None m) s p (inside (worked s.words) r)

-- what the batches of a call may write
abbrev pub behind : List ℕ → ℕ
behind w = (ahead w + 1) * (1 + nodes w)

module _ (T : Terms) (L : Logic T (List ℕ)) (E : Logic T ℕ) (W : Logic T Worked) (w : List ℕ) (e : ℕ) (R : Works T L E W w e) where
  pub work_keeps : (m : ℕ) (body : List ℕ → Tape → Run (List ℕ) (Unit {0})) → ((x : List ℕ) (q : Tape) → L.Good _ nothing (hand None m) x q (body x q)) → (p : Tape)
      → W.Good _ nothing (hand None (m + behind w)) (worked (epoch_words w e) (current_epoch w)) p (work_in w e body p)
  unfolding work_in
  work_keeps m body f p =
      next W {f = λ _. hand None (behind w)}
      (W.spares _ m (behind w) (m + behind w) _ p _ (omega arith) (R.called m p _ (call_keeps T L (nodes w) R.builds m body f (epoch_words w e) p)))
      (λ _ s q. R.handed (behind w) s q _ (batches_keep T L E (nodes w) (beside w e s.words) (R.turns s.words) (ahead w + 1) s.next q))

-- OF A PROPERTY THAT SAYS NOTHING OF THE STATE
module _ {T : Terms} {L : (S : Type 0) → Logic T S} (Z : Stateless T L) where
  pub any_builds : T.Kind 1 → T.Number 20 → (n : ℕ) → Builds T (L (List ℕ)) n
  any_builds kind number n = record { reads = kind; number = number; new = λ x. free Z }

  pub any_turns : Batches T → (words : ℕ → List ℕ) → Turns T (L (List ℕ)) (L ℕ) words
  any_turns batch words = record { batch = batch; out = λ e m p r g. elsewhere Z g; next = λ e. free Z }

  pub any_works : T.Kind 1 → T.Number 20 → Batches T → (w : List ℕ) (e : ℕ) → Works T (L (List ℕ)) (L ℕ) (L Worked) w e
  any_works kind number batch w e = record {
    builds = any_builds kind number (nodes w);
    turns = λ x. any_turns batch (beside w e x);
    called = λ m p r g. elsewhere Z g;
    handed = λ m s p r g. elsewhere Z g;
  }
