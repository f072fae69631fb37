-- Laws of runs that have two parts, or are a part of another. Assumes nothing.
use Rattle.std.proofs.Common.{◌≡◌, refl, ap, append_assoc}
use Rattle.steps.specs.Answers.{Tape}
use Rattle.steps.specs.Runs.{Verdict, going, refused, failed, Run, before, onward_as, onward, inside, Left, leaves}
use Rattle.steps.specs.Steps.{Out}

-- TWO PARTS, and a part
pub onward_assoc : {S A B C : Type 0} (r : Run S A) (k : A → S → Tape → Run S B) (m : B → S → Tape → Run S C)
    → onward (onward r k) m ≡ onward r (λ a s q. onward (k a s q) m)
unfolding onward onward_as
onward_assoc {S} {A} {B} {C} r k m = go r.verdict
  where
    go : (v : Verdict A) → onward (onward_as v r k) m ≡ onward_as v r (λ a s q. onward (k a s q) m)
    go (going a) = next (k a r.state r.tape).verdict
      where
        s : Run S B
        s = k a r.state r.tape

        next : (v : Verdict B) → onward_as v (before r.log s) m ≡ before r.log (onward_as v s m)
        next (going b) = rw append_assoc
        next refused = refl
        next (failed c) = refl
    go refused = refl
    go (failed c) = refl

pub onward_inside : {S T A B : Type 0} (put : T → S) (r : Run T A) (k : A → T → Tape → Run T B) (m : A → S → Tape → Run S B)
    → ((a : A) → inside put (k a r.state r.tape) ≡ m a (put r.state) r.tape) → inside put (onward r k) ≡ onward (inside put r) m
unfolding onward onward_as
onward_inside {A = A} put r k m h = go r.verdict
  where
    go : (v : Verdict A) → inside put (onward_as v r k) ≡ onward_as v (inside put r) m
    go (going a) = ap (before r.log) (h a)
    go refused = refl
    go (failed c) = refl

-- what is left of a part, as what is left of the whole
abbrev pub placed : {S T A : Type 0} → (T → S) → Left T A → Left S A
placed put d = record { state = put d.state; verdict = d.verdict; tape = d.tape; out = d.out }

pub leaves_inside : {S T A : Type 0} (put : T → S) (d : Left T A) (o : Out) (r : Run T A) → d ≡ leaves o r → placed put d ≡ leaves o (inside put r)
leaves_inside put d o r e = rw e
