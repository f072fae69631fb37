-- Laws of `onward` and `heard` for every layer. Assumes nothing.
use Rattle.std.proofs.Common.{ℕ, ◌≡◌, refl, sym, ap, ◌∙◌, List}
use Rattle.steps.specs.Answers.{Answer}
use Rattle.steps.specs.Answers.{Got, Refused}
use Rattle.steps.specs.Answers.{Tape, Asked, asked}
use Rattle.steps.specs.Steps.{Entry, Out, put_all}
use Rattle.steps.specs.Runs.{Verdict, going, refused, failed, number_of, Run, Left, before, onward_as, onward, heard_as, heard, leaves}
use Rattle.steps.proofs.ChainLaws.{put_all_append}

module _ {S A B : Type 0} (d : Left S A) (o : Out) (r : Run S A) (k : A → S → Tape → Run S B) (e : d ≡ leaves o r) where
  pub onward_go : (a : A) → d.verdict ≡ going a → leaves d.out (k a d.state d.tape) ≡ leaves o (onward r k)
  unfolding onward onward_as
  onward_go a n =
      let m : r.verdict ≡ going a = sym (ap (λ x. x.verdict) e) ∙ n in
      let h : onward r k ≡ before r.log (k a r.state r.tape) = rw (m, onward, onward_as) in
      rw (h, e, put_all_append o r.log (k a r.state r.tape).log)

  pub onward_refused : d.verdict ≡ refused → record { state = d.state; verdict = refused; tape = d.tape; out = d.out } ≡ leaves o (onward r k)
  unfolding onward onward_as
  onward_refused n =
      let m : r.verdict ≡ refused = sym (ap (λ x. x.verdict) e) ∙ n in
      let h : onward r k ≡ record { state = r.state; verdict = refused; tape = r.tape; log = r.log } = rw (m, onward, onward_as) in
      rw (h, e)

  pub onward_failed : (c : ℕ) → d.verdict ≡ failed c → record { state = d.state; verdict = failed c; tape = d.tape; out = d.out } ≡ leaves o (onward r k)
  unfolding onward onward_as
  onward_failed c n =
      let m : r.verdict ≡ failed c = sym (ap (λ x. x.verdict) e) ∙ n in
      let h : onward r k ≡ record { state = r.state; verdict = failed c; tape = r.tape; log = r.log } = rw (m, onward, onward_as) in
      rw (h, e)

-- a first part that does not go on leaves what the whole leaves
pub onward_stop : {S A : Type 0} (d : Left S A) (o : Out) (r : Run S A) (k : A → S → Tape → Run S A) → d ≡ leaves o r → ((a : A) → d.verdict ≡ going a → ⊥) → d ≡ leaves o (onward r k)
unfolding onward onward_as
onward_stop {S} {A} d o r k e n = go d.verdict refl
  where
    says : Verdict A → Left S A
    says v = record { state = d.state; verdict = v; tape = d.tape; out = d.out }

    go : (v : Verdict A) → d.verdict ≡ v → d ≡ leaves o (onward r k)
    go (going a) m = absurd (n a m)
    go refused m = ap says m ∙ onward_refused d o r k e m
    go (failed c) m = ap says m ∙ onward_failed d o r k e c m

-- entries before a run's own are put first
pub leaves_before : {S A : Type 0} (o : Out) (l : List Entry) (r : Run S A) → leaves o (before l r) ≡ leaves (put_all o l) r
leaves_before o l r = rw put_all_append

-- runs whose continuations agree agree: at the value with which the first part goes on, or everywhere
pub onward_at : {S A B : Type 0} (r : Run S A) (k m : A → S → Tape → Run S B) → ((a : A) → r.verdict ≡ going a → k a r.state r.tape ≡ m a r.state r.tape) → onward r k ≡ onward r m
unfolding onward onward_as
onward_at {A = A} r k m h = go r.verdict refl
  where
    go : (v : Verdict A) → r.verdict ≡ v → onward_as v r k ≡ onward_as v r m
    go (going a) e = ap (before r.log) (h a e)
    go refused e = refl
    go (failed c) e = refl

pub onward_cong : {S A B : Type 0} (r : Run S A) (k m : A → S → Tape → Run S B) → ((a : A) (s : S) (p : Tape) → k a s p ≡ m a s p) → onward r k ≡ onward r m
onward_cong r k m h = onward_at r k m (λ a e. h a r.state r.tape)

pub heard_cong : {S A : Type 0} (q : Asked) (s : S) (k m : ℕ → ℕ → Tape → Run S A) → ((a b : ℕ) (p : Tape) → k a b p ≡ m a b p) → heard q s k ≡ heard q s m
unfolding heard heard_as
heard_cong q s k m h = go q.answer
  where
    go : (x : Answer) → heard_as x s q.tape k ≡ heard_as x s q.tape m
    go (Got a b) = h a b q.tape
    go Refused = refl

module _ {S A : Type 0} (q : Asked) (x : Answer) (p : Tape) (s : S) (k : ℕ → ℕ → Tape → Run S A) (e : asked x p ≡ q) where
  pub heard_got : (a b : ℕ) → x ≡ Got a b → heard q s k ≡ k a b p
  unfolding heard heard_as
  heard_got a b n = rw (← e, n)

  -- a run that hears no answer ends with the number that asking replied
  pub heard_number : x ≡ Refused → number_of (heard q s k).verdict ≡ q.reply
  unfolding heard heard_as number_of
  heard_number n = rw (← e, n)
