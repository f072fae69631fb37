-- Laws of words of bits. Assumes nothing.
use Rattle.std.proofs.Common.{ℕ, suc, ◌+◌, ◌*◌, ◌/◌, ◌-◌, ◌%◌, ◌^◌, ◌≤◌, ◌<◌, ◌≡◌, refl, ap, ◌∙◌, Bool, true, false, cond, arith, mod-lt, div-lt_iff_lt-mul, mul-le-mul_right, pow-add, pow_pos}
use Rattle.std.proofs.Math.Nat.{div-add-mod, two-pow-succ}
use Rattle.std.proofs.lemmas.Bool.{eqb-false}
use Rattle.std.proofs.lemmas.Nat.{one_shl}
use Rattle.steps.specs.Bits.{has_bit, with_bit}

-- a bit below n leaves a word below 2^n there
module _ (n x i : ℕ) (l : i < n) (h : x < 2 ^ n) where
  bit_below : has_bit x i ≡ false → x + 2 ^ i < 2 ^ n
  unfolding has_bit
  bit_below e =
      let k : n ≡ suc (n - suc i) + i = omega arith in
      let q : 2 ^ n ≡ (2 ^ (n - suc i) + 2 ^ (n - suc i)) * 2 ^ i = ap (λ m. 2 ^ m) k ∙ pow-add 2 (suc (n - suc i)) i ∙ rw (two-pow-succ (n - suc i)) in
      go (2 ^ (n - suc i)) (2 ^ i) (pow_pos i) q (eqb-false (x / 2 ^ i % 2) 1 e)
    where
      go : (a b : ℕ) → 0 < b → 2 ^ n ≡ (a + a) * b → (x / b % 2 ≡ 1 → ⊥) → x + b < 2 ^ n
      go a b s q z =
          let d : x / b < a + a = (div-lt_iff_lt-mul s).1 (omega arith) in
          let k : x / b + 2 ≤ a + a = omega arith in
          omega (arith, mul-le-mul_right b k, div-add-mod x b, mod-lt x s)

  pub with_below : with_bit x i < 2 ^ n
  unfolding with_bit
  with_below = go (has_bit x i) refl
    where
      go : (y : Bool) → has_bit x i ≡ y → cond y x (x + 2 ^ i) < 2 ^ n
      go true e = h
      go false e = bit_below e

-- a bit that is not set is added
pub with_added : (x i : ℕ) → i < 64 → has_bit x i ≡ false → x + 1 * 2 ^ i % 18446744073709551616 ≡ with_bit x i
unfolding with_bit
with_added x i h e = rw (e, one_shl i 64 h)
