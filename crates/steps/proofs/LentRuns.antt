-- Laws for functions that are lent a reader and a writer: what follows an answer or a part of a run, and what ends there (Rust's `?`).
-- Assumes nothing.
use Rattle.std.proofs.Common.{ℕ, ◌≡◌, refl, sym, ap, ◌∙◌, List, Bool, true, false, true≢false, Result, Ok, Err, IsErrAnd}
use Rattle.std.proofs.lemmas.Result.{err_from_is_err_and}
use Rattle.steps.specs.declared.kinds.Stop.{Stop}
use Rattle.steps.specs.declared.kinds.Failure.{Failure}
use Rattle.steps.specs.declared.kinds.Stop.TheVariants.{NotNext, Failed}
use Rattle.steps.specs.Answers.{Answer}
use Rattle.steps.specs.Answers.{Got, Refused}
use Rattle.steps.specs.declared.step.Writer.{Writer}
use Rattle.steps.specs.Verdicts.{Verdict, going, refused, failed}
use Rattle.steps.specs.Kinds.{verdict_of as verdict_in, failure_number}
use Rattle.steps.specs.Told.{Told, told, heard_in}
use Rattle.steps.specs.Answers.{Tape, Asked, verdict_of}
use Rattle.steps.specs.Steps.{Entry, Out, put_all}
use Rattle.steps.specs.Runs.{Run, Left, ends, before, onward, onward_as, heard, heard_as, leaves}
use Rattle.steps.specs.Written.{out_of, left_as, left, left_reading}
use Rattle.steps.proofs.RunLaws.{leaves_before, onward_go, onward_refused, onward_failed}

-- what follows an answer, and what ends where there is none
words_of : Verdict (ℕ × ℕ) → ℕ × ℕ
words_of (going x) = x
words_of refused = (0, 0)
words_of (failed n) = (0, 0)

goes_on : {A : Type 0} → Verdict A → Bool
goes_on (going x) = true
goes_on refused = false
goes_on (failed n) = false

fails : {A : Type 0} → Verdict A → Bool
fails (going x) = false
fails refused = false
fails (failed n) = true

-- an answer is there or not: asking never fails
failed_unheard : (q : Asked) (p : Tape) (g : Failure) → told (Err (Failed g)) p ≡ heard_in q → ⊥
unfolding fails
failed_unheard q p g e = go q.answer refl
  where
    go : (y : Answer) → q.answer ≡ y → ⊥
    go Refused n = true≢false (ap (λ (d : Told). fails d.verdict) e ∙ ap (λ y. fails (verdict_of y)) n)
    go (Got a b) n = true≢false (ap (λ (d : Told). fails d.verdict) e ∙ ap (λ y. fails (verdict_of y)) n)

module _ {S A : Type 0} (q : Asked) (s : S) (k : ℕ → ℕ → Tape → Run S A) (p : Tape) where
  follows : (x : ℕ × ℕ) → told (Ok x) p ≡ heard_in q → k x.0 x.1 p ≡ heard q s k
  unfolding heard heard_as words_of goes_on fails
  follows x e = go q.answer refl
    where
      go : (y : Answer) → q.answer ≡ y → k x.0 x.1 p ≡ heard_as q.answer s q.tape k
      go (Got a b) n =
          let u : x ≡ (a, b) = ap (λ (d : Told). words_of d.verdict) e ∙ ap (λ y. words_of (verdict_of y)) n in
          let t : p ≡ q.tape = ap (λ (d : Told). d.tape) e in
          rw (n, u, t)
      go Refused n = absurd (true≢false (ap (λ (d : Told). goes_on d.verdict) e ∙ ap (λ y. goes_on (verdict_of y)) n))

  ends_there : (f : Stop Failure) → told (Err f) p ≡ heard_in q → ends (verdict_in {A = A} (Err f)) s p ≡ heard q s k
  unfolding heard heard_as words_of goes_on fails
  ends_there f e = go q.answer refl f e
    where
      go : (y : Answer) → q.answer ≡ y → (f : Stop Failure) → told (Err f) p ≡ heard_in q → ends (verdict_in {A = A} (Err f)) s p ≡ heard_as q.answer s q.tape k
      go Refused n NotNext e =
          let t : p ≡ q.tape = ap (λ (d : Told). d.tape) e in
          rw (n, t)
      go Refused n (Failed g) e = absurd (failed_unheard q p g e)
      go (Got a b) n NotNext e = absurd (true≢false (sym (ap (λ (d : Told). goes_on d.verdict) e ∙ ap (λ y. goes_on (verdict_of y)) n)))
      go (Got a b) n (Failed g) e = absurd (failed_unheard q p g e)

-- after an answer the run goes on with its words a and b; without one it ends
module _ {S A : Type 0} (q : Asked) (s : S) (k : ℕ → ℕ → Tape → Run S A) (p : Tape) where
  pub heard_ok : (x : ℕ × ℕ) → told (Ok x) p ≡ heard_in q → (r : Run S A) → r ≡ k x.0 x.1 p → r ≡ heard q s k
  heard_ok x e r n = n ∙ follows q s k p x e

  pub heard_err : (f : Stop Failure) → told (Err f) p ≡ heard_in q → left_reading {S = S} {A = A} s (Err f) p ≡ heard q s k
  heard_err f e = ends_there q s k p f e

  pub heard_ok_left : (x : ℕ × ℕ) → told (Ok x) p ≡ heard_in q → (d : Left S A) (o : Out) → d ≡ leaves o (k x.0 x.1 p) → d ≡ leaves o (heard q s k)
  heard_ok_left x e d o n = n ∙ ap (leaves o) (follows q s k p x e)

  -- whatever number the caller's failures have: where the answer is not next, none of them comes
  pub unheard_left : {E : Type 0} (number : E → ℕ) (f : Stop Failure) → told (Err f) p ≡ heard_in q → (w : Writer) → left_as {S = S} {A = A} number s (Err NotNext) p w ≡ leaves (out_of w) (heard q s k)
  unfolding put_all
  unheard_left number NotNext e w = ap (leaves (out_of w)) (ends_there q s k p NotNext e)
  unheard_left number (Failed g) e w = absurd (failed_unheard q p g e)

  pub heard_err_left : (f : Stop Failure) → told (Err f) p ≡ heard_in q → (w : Writer) → left {S = S} {A = A} s (Err f) p w ≡ leaves (out_of w) (heard q s k)
  unfolding put_all
  heard_err_left f e w = ap (leaves (out_of w)) (ends_there q s k p f e)

-- what a `?` hands up where its call stopped: r is the result, f the error of the call
pub stops : {A E : Type 0} (r : Result A E) (f : E) → IsErrAnd r (λ e. e ≡ f) → r ≡ Err f
stops r f h = let p = err_from_is_err_and r h in p.1 ∙ ap Err p.2

-- entries before a run's own
pub before_left : {S A : Type 0} (o : Out) (l : List Entry) (r : Run S A) (d : Left S A) → d ≡ leaves (put_all o l) r → d ≡ leaves o (before l r)
before_left o l r d e = e ∙ sym (leaves_before o l r)

-- after a part that is done the run goes on with its value; a part that ends ends the run
module _ {S A B : Type 0} (s : S) (p : Tape) (r : Run S A) (k : A → S → Tape → Run S B) where
  pub onward_ok : (w : Writer) (o : Out) (a : A) → left s (Ok a) p w ≡ leaves o r → (d : Left S B) → d ≡ leaves (out_of w) (k a s p) → d ≡ leaves o (onward r k)
  onward_ok w o a e d n = n ∙ onward_go (left s (Ok a) p w) o r k e a refl

  pub onward_err_as : {E : Type 0} (number : E → ℕ) (w : Writer) (o : Out) (f : Stop E) → left_as {S = S} {A = A} number s (Err f) p w ≡ leaves o r → left_as {S = S} {A = B} number s (Err f) p w ≡ leaves o (onward r k)
  onward_err_as number w o NotNext e = onward_refused (left_as {S = S} {A = A} number s (Err NotNext) p w) o r k e refl
  onward_err_as number w o (Failed f) e = onward_failed (left_as {S = S} {A = A} number s (Err (Failed f)) p w) o r k e (number f) refl

  pub onward_err : (w : Writer) (o : Out) (f : Stop Failure) → left {S = S} {A = A} s (Err f) p w ≡ leaves o r → left {S = S} {A = B} s (Err f) p w ≡ leaves o (onward r k)
  onward_err = onward_err_as failure_number

  pub read_ok_left : (a : A) → left_reading s (Ok a) p ≡ r → (d : Left S B) (o : Out) → d ≡ leaves o (k a s p) → d ≡ leaves o (onward r k)
  unfolding onward onward_as
  read_ok_left a e d o n = rw (← e) n

  pub read_err : (f : Stop Failure) → left_reading {S = S} {A = A} s (Err f) p ≡ r → left_reading {S = S} {A = B} s (Err f) p ≡ onward r k
  unfolding onward onward_as
  read_err NotNext e = rw (← e) refl
  read_err (Failed f) e = rw (← e) refl

  pub read_err_left : (f : Stop Failure) → left_reading {S = S} {A = A} s (Err f) p ≡ r → (w : Writer) → left {S = S} {A = B} s (Err f) p w ≡ leaves (out_of w) (onward r k)
  unfolding put_all
  read_err_left f e w = ap (leaves (out_of w)) (read_err f e)
