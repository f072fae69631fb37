-- Words of bits: bit i of a word stands for index i.
use Rattle.std.specs.Prelude.{ℕ, zero, suc, ◌+◌, ◌/◌, ◌%◌, ◌^◌, Bool, cond, eqb}

unfoldable pub has_bit : ℕ → ℕ → Bool
has_bit x i = eqb (x / 2 ^ i % 2) 1

unfoldable pub with_bit : ℕ → ℕ → ℕ
with_bit x i = cond (has_bit x i) x (x + 2 ^ i)

-- how many of the next m bits, from bit i on, are set
unfoldable pub count_bits : ℕ → ℕ → ℕ → ℕ
count_bits zero i x = 0
count_bits (suc m) i x = cond (has_bit x i) 1 0 + count_bits m (i + 1) x

-- the word with a bit for each of the next m indexes, from index i on, that is so
unfoldable pub bits_from : (ℕ → Bool) → ℕ → ℕ → ℕ
bits_from is zero i = 0
bits_from is (suc m) i = cond (is i) (2 ^ i) 0 + bits_from is m (i + 1)
