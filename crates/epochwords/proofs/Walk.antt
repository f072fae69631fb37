-- ONE WALK of the batch of an epoch, for every property of runs that has the rules. Assumes nothing.
use Rattle.std.proofs.Common.{ℕ, zero, suc, ◌+◌, ◌-◌, ◌≤◌, ◌≡◌, refl, List, true, None, arith, eqb}
use Rattle.steps.specs.Table.{within}
use Rattle.steps.specs.Answers.{Tape}
use Rattle.steps.specs.Steps.{fault, output}
use Rattle.steps.specs.Runs.{Run, before}
use Rattle.steps.specs.Bits.{has_bit}
use Rattle.steps.proofs.Logic.{hand, nothing, Terms, anything, Logic, here, test, one, perhaps, put, hear, next}
use Rattle.epochwords.specs.Batch.{is_read, read_at, read_from, entries_from, output_batch_in}

-- what a batch reads and writes
pub record Batches (T : Terms) : Type 0 where
  pub reads : T.Kind 13
  pub faults : (p : ℕ) → T.Writes (fault 5 p 0)
  pub outputs : (k a b : ℕ) → within 1 2 k ≡ true → T.Writes (output k a b)

pub any_batches : Batches anything
any_batches = record { reads = tt; faults = λ p. tt; outputs = λ k a b e. tt }

module _ (T : Terms) (L : Logic T (List ℕ)) (R : Batches T) (size : ℕ) where
  read_at_keeps : (p readable n : ℕ) (w : List ℕ) (t : Tape) → L.Good _ nothing (hand None n) w t (read_at size p readable w t)
  unfolding read_at
  read_at_keeps p readable n w t =
      test L (is_read size w p)
      (λ _. hear L n 13 p R.reads (λ a b q.
      test L (eqb a 0) (λ _. put L n (R.faults p) (here L readable w q)) (λ _. here L _ w q)))
      (λ _. here L readable w t)

  read_keeps : (m p readable n : ℕ) (w : List ℕ) (t : Tape) → L.Good _ nothing (hand None n) w t (read_from size m p readable w t)
  unfolding read_from
  read_keeps zero p readable n w t = here L readable w t
  read_keeps (suc m) p readable n w t = next L (read_at_keeps p readable n w t) (λ readable w q. read_keeps m (p + 1) readable 0 w q)

  entries_keep : (m p readable n : ℕ) → m ≤ n → (u w : List ℕ) (t : Tape) (r : Run (List ℕ) (Unit {0})) → ((n : ℕ) → L.Good _ nothing (hand None n) w t r)
      → L.Good _ nothing (hand None n) w t (before (entries_from size m p readable u) r)
  unfolding entries_from
  entries_keep zero p readable n l u w t r h = h n
  entries_keep (suc m) p readable n l u w t r h =
      perhaps L (has_bit readable p) n _ _ w t r (omega arith) (R.outputs 2 _ _ refl) (λ k e. entries_keep m (p + 1) readable k (omega arith) u w t r h)

  -- its record and an entry for each of n proposers, besides the faults
  pub batch_keeps : (n epoch : ℕ) (w : List ℕ) (t : Tape) → L.Good _ nothing (hand None (1 + n)) w t (output_batch_in size n epoch w t)
  unfolding output_batch_in
  batch_keeps n epoch w t =
      next L {f = λ _. hand None (1 + n)} (L.spares _ 0 (1 + n) (1 + n) w t _ (omega arith) (read_keeps n 0 0 0 w t)) (λ readable w q.
      one L (1 + n) _ w q _ (omega arith) (R.outputs 1 _ _ refl) (entries_keep n 0 readable (1 + n - 1) (omega arith) w w q _ (λ k. here L tt w q)))
