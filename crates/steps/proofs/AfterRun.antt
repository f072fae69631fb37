-- What holds after a run that is neither refused nor fails: what it gives, with the log left out. Assumes nothing.
use Rattle.std.proofs.Common.{ℕ, ◌≡◌, refl, List, ◌∷◌, Bool, cond}
use Rattle.steps.specs.Answers.{Rec, Tape, tape, ask, ask_about}
use Rattle.steps.specs.Steps.{Entry}
use Rattle.steps.specs.Runs.{going, Run, before, inside, onward, heard}
use Rattle.steps.proofs.GivenWithLog.{Gives, gives_map, gives_cond, gives_before, gives_with, gives_both, gives_any, gives_out, gives_ask, gives_about, gives_onward, gives_inside}

abbrev pub Afterwards : {S A : Type 0} → Run S A → (A → S → Tape → Type 0) → Type 0
Afterwards r Q = Gives r (λ a s p l. Q a s p)

module _ {S A : Type 0} where
  pub after_map : (r : Run S A) (P Q : A → S → Tape → Type 0) → Afterwards r P → ((a : A) (s : S) (p : Tape) → P a s p → Q a s p) → Afterwards r Q
  after_map r P Q h k = gives_map r _ _ h (λ a s p l. k a s p)

  pub after_cond : (x : Bool) (r s : Run S A) (Q : A → S → Tape → Type 0) → Afterwards r Q → Afterwards s Q → Afterwards (cond x r s) Q
  after_cond x r s Q f g = gives_cond x r s _ (λ _. f) (λ _. g)

  pub after_before : (l : List Entry) (r : Run S A) (Q : A → S → Tape → Type 0) → Afterwards r Q → Afterwards (before l r) Q
  after_before l r Q h = gives_before l r _ h

  -- what holds of a run's state and answers, whatever its verdict
  pub after_with : (r : Run S A) (Q : A → S → Tape → Type 0) (T : S → Tape → Type 0) → T r.state r.tape → Afterwards r Q → Afterwards r (λ a s z. Q a s z × T s z)
  after_with r Q T t h = gives_with r _ T t h

  pub after_both : (r : Run S A) (P Q : A → S → Tape → Type 0) → Afterwards r P → Afterwards r Q → Afterwards r (λ a s z. P a s z × Q a s z)
  after_both r P Q f g = gives_both r _ _ f g

  pub after_any : (r : Run S A) (Q : A → S → Tape → Type 0) → ((a : A) (s : S) (z : Tape) → Q a s z) → Afterwards r Q
  after_any r Q f = gives_any r _ (λ a s z l. f a s z)

  -- of a run that goes on
  pub after_out : (r : Run S A) (Q : A → S → Tape → Type 0) (a : A) → Afterwards r Q → r.verdict ≡ going a → Q a r.state r.tape
  after_out r Q a h e = gives_out r _ a h e

pub after_onward : {S A B : Type 0} (r : Run S A) (k : A → S → Tape → Run S B) (Q : B → S → Tape → Type 0) → Afterwards r (λ a s p. Afterwards (k a s p) Q) → Afterwards (onward r k) Q
after_onward r k Q h = gives_onward r k _ h

pub after_inside : {S T A : Type 0} (put : T → S) (r : Run T A) (Q : A → S → Tape → Type 0) → Afterwards r (λ a t p. Q a (put t) p) → Afterwards (inside put r) Q
after_inside put r Q h = gives_inside put r _ h

-- AN ANSWER THAT WAS READ: p's first record, behind which u stands
pub record Reads (p : Tape) (kind b : ℕ) (u : Tape) : Type 0 where
  pub first : Rec
  pub rests : p.rest ≡ first ∷ u.rest
  pub of_kind : first.kind ≡ kind
  pub says : first.b ≡ b

module _ {S A : Type 0} (p : Tape) (kind : ℕ) (s : S) (k : ℕ → ℕ → Tape → Run S A) (Q : A → S → Tape → Type 0) where
  pub after_ask : ((a b : ℕ) (u : Tape) → Reads p kind b u → Afterwards (k a b u) Q) → Afterwards (heard (ask p kind) s k) Q
  after_ask f = gives_ask p kind s k _ (λ r rs e w. f r.a r.b (tape r.next rs) (record { first = r; rests = e; of_kind = w; says = refl }))

  pub after_about : (who : ℕ) → ((a b : ℕ) (u : Tape) → Reads p kind who u → Afterwards (k a b u) Q) → Afterwards (heard (ask_about p kind who) s k) Q
  after_about who f = gives_about p kind who s k _ (λ r rs e w n. f r.a r.b (tape r.next rs) (record { first = r; rests = e; of_kind = w; says = n }))
