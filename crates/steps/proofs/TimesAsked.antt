-- How often an answer about a proposer was asked for stays the same over answers of other kinds. Assumes nothing.
use Rattle.std.proofs.Common.{ℕ, arith, ◌≡◌, refl, List, [], ◌∷◌, ◌++◌, Bool, true, eqb}
use Rattle.steps.specs.Answers.{Rec}
use Rattle.steps.specs.Times.{times_asked}
use Rattle.steps.proofs.ReadByKinds.{OfKinds, Past, Others}

module _ (is : ℕ → Bool) where
  times_on : (kind : ℕ) → Others is (λ k. eqb k kind) → (q : ℕ) (l r : List Rec) → OfKinds is l → times_asked kind q (l ++ r) ≡ times_asked kind q r
  unfolding OfKinds times_asked
  times_on kind f q [] r k = refl
  times_on kind f q (x ∷ xs) r k = rw (f x.kind k.0) (omega (arith, times_on kind f q xs r k.1))

  pub past_times : (kind : ℕ) → Others is (λ k. eqb k kind) → {ws r : List Rec} → Past is ws r → (q : ℕ) → times_asked kind q ws ≡ times_asked kind q r
  past_times kind f {ws} {r} p q = rw p.rests (times_on kind f q p.read r p.kinds)

  -- records of these kinds are of those, too
  kinds_more : (of : ℕ → Bool) → ((k : ℕ) → is k ≡ true → of k ≡ true) → (l : List Rec) → OfKinds is l → OfKinds of l
  unfolding OfKinds
  kinds_more of f [] k = tt
  kinds_more of f (r ∷ rs) k = (f r.kind k.0, kinds_more of f rs k.1)

  pub past_more : (of : ℕ → Bool) → ((k : ℕ) → is k ≡ true → of k ≡ true) → {ws r : List Rec} → Past is ws r → Past of ws r
  past_more of f p = record { read = p.read; rests = p.rests; kinds = kinds_more of f p.read p.kinds }
