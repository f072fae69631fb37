-- Counting over the proposers, in rising order. Assumes nothing.
use Rattle.std.proofs.Common.{ℕ, zero, suc, ◌+◌, ◌≤◌, ◌<◌, ◌≡◌, refl, ap, ◌⊎◌, inl, inr, Bool, true, false, cond, Option, arith, eq-or-lt_of_le, eqb, eqb-true}
use Rattle.std.proofs.lemmas.Bool.{eqb-false}
use Rattle.steps.specs.Taken.{is_true, ones_from}

-- how many of the next m proposers, from p on, are so
unfoldable pub count_if : (ℕ → Bool) → ℕ → ℕ → ℕ
count_if is zero p = 0
count_if is (suc m) p = cond (is p) 1 0 + count_if is m (p + 1)

pub ones_if : (d : ℕ → Option ℕ) (m p : ℕ) → ones_from d m p ≡ count_if (λ q. is_true (d q)) m p
unfolding ones_from count_if
ones_if d zero p = refl
ones_if d (suc m) p = ap (λ k. cond (is_true (d p)) 1 0 + k) (ones_if d m (p + 1))

bit_le : (x : Bool) → cond {A = ℕ} x 1 0 ≤ 1
bit_le true = omega arith
bit_le false = omega arith

bit_rises : (x y : Bool) → (x ≡ true → y ≡ true) → cond {A = ℕ} x 1 0 ≤ cond y 1 0
bit_rises true y h = rw (h refl) (omega arith)
bit_rises false y h = omega arith

pub count_le : (is : ℕ → Bool) (m p : ℕ) → count_if is m p ≤ m
unfolding count_if
count_le is zero p = omega arith
count_le is (suc m) p = omega (arith, count_le is m (p + 1), bit_le (is p))

module _ (f g : ℕ → Bool) where
  pub count_same : (m p : ℕ) → ((q : ℕ) → p ≤ q → q < p + m → f q ≡ g q) → count_if f m p ≡ count_if g m p
  unfolding count_if
  count_same zero p h = refl
  count_same (suc m) p h = rw (h p (omega arith) (omega arith), count_same m (p + 1) (λ q a b. h q (omega arith) (omega arith)))

  pub count_rises : ((q : ℕ) → f q ≡ true → g q ≡ true) → (m p : ℕ) → count_if f m p ≤ count_if g m p
  unfolding count_if
  count_rises h zero p = omega arith
  count_rises h (suc m) p = omega (arith, count_rises h m (p + 1), bit_rises (f p) (g p) (h p))

  -- where only one proposer differs
  module _ (p : ℕ) (same : (q : ℕ) → (q ≡ p → ⊥) → g q ≡ f q) where
    behind : (m i : ℕ) → p < i → count_if g m i ≡ count_if f m i
    unfolding count_if
    behind zero i h = refl
    behind (suc m) i h = rw (same i (λ e. omega arith), behind m (i + 1) (omega arith))

    pub count_add : f p ≡ false → g p ≡ true → (m i : ℕ) → i ≤ p → p < i + m → count_if g m i ≡ count_if f m i + 1
    unfolding count_if
    count_add a b zero i l h = absurd (omega arith)
    count_add a b (suc m) i l h = go (eqb i p) refl (count_add a b m (i + 1))
      where
        go : (x : Bool) → eqb i p ≡ x → (i + 1 ≤ p → p < i + 1 + m → count_if g m (i + 1) ≡ count_if f m (i + 1) + 1)
            → cond (g i) 1 0 + count_if g m (i + 1) ≡ cond (f i) 1 0 + count_if f m (i + 1) + 1
        go true e ih = let z : i ≡ p = eqb-true i p e in rw (z, a, b) (omega (arith, behind m (p + 1) (omega arith)))
        go false e ih =
            let z : i ≡ p → ⊥ = eqb-false i p e in
            let up : i + 1 ≤ p = above (eq-or-lt_of_le l) z in
            rw (same i z) (omega (arith, ih up (omega arith)))
          where
            above : (i ≡ p) ⊎ (i < p) → (i ≡ p → ⊥) → i + 1 ≤ p
            above (inl e) n = absurd (n e)
            above (inr u) n = omega arith
