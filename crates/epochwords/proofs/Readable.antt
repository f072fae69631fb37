-- THE ENTRIES OF A BATCH are as many as the readable ones, which the language's count of ones counts: no bit above the n-th is ever set. Assumes nothing.
use Rattle.std.proofs.Common.{ℕ, zero, suc, ◌+◌, ◌^◌, ◌≤◌, ◌<◌, ◌≡◌, sym, List, arith, eqb, pow_pos}
use lib.Count.{ones}
use Rattle.steps.specs.Answers.{Tape}
use Rattle.steps.specs.Bits.{count_bits}
use Rattle.steps.proofs.BitLaws.{with_below}
use Rattle.steps.proofs.AfterRun.{Afterwards, after_map, after_cond, after_onward, after_about}
use Rattle.subset.proofs.Bits.{ones_bits}
use Rattle.epochwords.specs.Batch.{is_read, read_at, read_from}

module _ (size n : ℕ) where
  abbrev Few : ℕ → List ℕ → Tape → Type 0
  Few readable w z = readable < 2 ^ n

  readable_at : (p readable : ℕ) (w : List ℕ) (u : Tape) → p < n → readable < 2 ^ n → Afterwards (read_at size p readable w u) Few
  unfolding read_at
  readable_at p readable w u l h =
      after_cond (is_read size w p) _ _ Few
      (after_about u 13 w _ Few p (λ a b z r. after_cond (eqb a 0) _ _ Few h (with_below n readable p l h)))
      h

  readable_below : (m p readable : ℕ) (w : List ℕ) (u : Tape) → p + m ≤ n → readable < 2 ^ n → Afterwards (read_from size m p readable w u) Few
  unfolding read_from
  readable_below zero p readable w u l h = h
  readable_below (suc m) p readable w u l h =
      after_onward _ _ Few
      (after_map (read_at size p readable w u) Few _ (readable_at p readable w u (omega arith) h) (λ x w z k. readable_below m (p + 1) x w z (omega arith) k))

  pub entries_ones : (w : List ℕ) (u : Tape) → Afterwards (read_from size n 0 0 w u) (λ readable w z. count_bits n 0 readable ≡ ones readable)
  entries_ones w u =
      after_map (read_from size n 0 0 w u) Few _ (readable_below n 0 0 w u (omega arith) (pow_pos n)) (λ x w z k. sym (ones_bits n x k))
