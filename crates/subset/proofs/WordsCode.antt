-- The words of bits and the words of an epoch, as the code makes them. Assumes nothing.
use Rattle.std.proofs.Common.{ℕ, suc, ◌+◌, ◌-◌, ◌*◌, ◌%◌, ◌^◌, ◌≤◌, ◌<◌, arith, ◌≡◌, Bool, true, false, cond, pow_mono}
use mir.Val.{bool_byte}
use Rattle.std.proofs.lemmas.Nat.{one_shl}
use Rattle.steps.specs.Bits.{bits_from}
use Rattle.subset.proofs.Bits.{bits_below}

-- a bit, as the code makes it of a test
pub bit_of : (r p : ℕ) (t u : Bool) → r ≡ bool_byte t → t ≡ u → p < 64 → r * 2 ^ p % 18446744073709551616 ≡ cond u (2 ^ p) 0
bit_of r p true u e f h = rw (e, ← f) (one_shl p 64 h)
bit_of r p false u e f h = rw (e, ← f) (omega arith)

-- A WORD MADE OF BITS, one bit more
module _ (is : ℕ → Bool) (n p : ℕ) where
  pub bits_turn : p < n → bits_from is (n - p) p ≡ cond (is p) (2 ^ p) 0 + bits_from is (n - (p + 1)) (p + 1)
  unfolding bits_from
  bits_turn h =
      let e : n - p ≡ suc (n - (p + 1)) = omega arith in
      rw e

  pub bits_done : n ≤ p → bits_from is (n - p) p ≡ 0
  unfolding bits_from
  bits_done h =
      let e : n - p ≡ 0 = omega arith in
      rw e

pub bits_small : (is : ℕ → Bool) (n : ℕ) → n ≤ 16 → bits_from is n 0 < 65536
bits_small is n few = let h : 2 ^ n ≤ 2 ^ 16 = pow_mono few in omega (arith, bits_below is n)
