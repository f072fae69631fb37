-- Laws for the code that hands out a batch: its tests and loops, case by case. Assumes nothing.
use Rattle.std.proofs.Common.{ℕ, suc, ◌+◌, ◌-◌, ◌≤◌, ◌<◌, ◌≡◌, refl, sym, ◌∙◌, List, ◌∷◌, Bool, true, false, cond, ◌&&◌, not, arith, length, mul-le-mul_right, suc-mul}
use lib.Count.{ones}
use Rattle.steps.specs.Numbers.{node_limit, batch_output, entry_output}
use Rattle.steps.specs.Answers.{Tape}
use Rattle.steps.specs.Steps.{Out, put_entry, put_all, output}
use Rattle.steps.specs.Runs.{going, ends, before, onward, leaves}
use Rattle.steps.specs.Bits.{has_bit, count_bits}
use Rattle.steps.proofs.RunLaws.{leaves_before}
use Rattle.steps.proofs.AfterRun.{after_out}
use Rattle.subset.specs.Words.{field_at}
use Rattle.epochwords.specs.Shape.{Records}
use Rattle.epochwords.specs.Words.{is_accepted, is_settled, decryption_in, plaintext_in, plaintext_field}
use Rattle.epochwords.specs.Batch.{decrypted_from, read_at, read_from, entries_from}
use Rattle.epochwords.proofs.Readable.{entries_ones}

-- p's record is inside
pub record_here : (size n p : ℕ) (w : List ℕ) → Records size n w → p < n → (p < node_limit) × (field_at size p plaintext_field < length w)
record_here size n p w h l = (omega (arith, h.few), omega (arith, h.fields, h.long, mul-le-mul_right size l, suc-mul p size))

module _ (size n p : ℕ) (w : List ℕ) where
  -- READY: one proposer more, who is awaited or not
  module _ (l : p < n) where
    settled_turn : decrypted_from size (n - p) p w ≡ cond (is_accepted w p) (is_settled (decryption_in size w p)) true && decrypted_from size (n - (p + 1)) (p + 1) w
    unfolding decrypted_from
    settled_turn =
        let e : n - p ≡ suc (n - (p + 1)) = omega arith in
        rw e

    pub ready_awaits : is_accepted w p && not (is_settled (decryption_in size w p)) ≡ true → decrypted_from size (n - p) p w ≡ false
    ready_awaits e = settled_turn ∙ go (is_accepted w p) (is_settled (decryption_in size w p)) _ e
      where
        go : (a s r : Bool) → a && not s ≡ true → cond a s true && r ≡ false
        go true false r e = refl
        go true true r e = let z : ◌≡◌ {A = ℕ} 0 1 = cc in absurd (omega arith)
        go false s r e = let z : ◌≡◌ {A = ℕ} 0 1 = cc in absurd (omega arith)

    pub ready_turn : is_accepted w p && not (is_settled (decryption_in size w p)) ≡ false → decrypted_from size (n - p) p w ≡ decrypted_from size (n - (p + 1)) (p + 1) w
    ready_turn e = settled_turn ∙ go (is_accepted w p) (is_settled (decryption_in size w p)) _ e
      where
        go : (a s r : Bool) → a && not s ≡ false → cond a s true && r ≡ r
        go true false r e = let z : ◌≡◌ {A = ℕ} 0 1 = cc in absurd (omega arith)
        go true true r e = refl
        go false s r e = refl

  pub ready_over : n ≤ p → decrypted_from size (n - p) p w ≡ true
  unfolding decrypted_from
  ready_over l =
      let e : n - p ≡ 0 = omega arith in
      rw e

-- one proposer more
module _ (size n p readable : ℕ) (w : List ℕ) (t : Tape) where
  pub reads_turn : p < n → read_from size (n - p) p readable w t ≡ onward (read_at size p readable w t) (λ readable w q. read_from size (n - (p + 1)) (p + 1) readable w q)
  unfolding read_from
  reads_turn l =
      let e : n - p ≡ suc (n - (p + 1)) = omega arith in
      rw e

  pub reads_over : n ≤ p → ends (going readable) w t ≡ read_from size (n - p) p readable w t
  unfolding read_from
  reads_over l =
      let e : n - p ≡ 0 = omega arith in
      rw e

-- ENTRIES: one proposer more
module _ (size n p readable : ℕ) (w : List ℕ) (o : Out) where
  pub entries_some : p < n → has_bit readable p ≡ true → (u : Out) → u ≡ put_entry o (output entry_output p (plaintext_in size w p))
      → put_all u (entries_from size (n - (p + 1)) (p + 1) readable w) ≡ put_all o (entries_from size (n - p) p readable w)
  unfolding entries_from put_all
  entries_some l b u m =
      let e : n - p ≡ suc (n - (p + 1)) = omega arith in
      rw (e, b, m)

  pub entries_none : p < n → has_bit readable p ≡ false → put_all o (entries_from size (n - (p + 1)) (p + 1) readable w) ≡ put_all o (entries_from size (n - p) p readable w)
  unfolding entries_from
  entries_none l b =
      let e : n - p ≡ suc (n - (p + 1)) = omega arith in
      rw (e, b)

  pub entries_over : n ≤ p → o ≡ put_all o (entries_from size (n - p) p readable w)
  unfolding entries_from put_all
  entries_over l =
      let e : n - p ≡ 0 = omega arith in
      rw e

-- THE BATCH: the language's count of ones counts the readable ones,
pub readable_ones : (size n readable : ℕ) (w : List ℕ) (t : Tape) → (read_from size n 0 0 w t).verdict ≡ going readable → ones readable ≡ count_bits n 0 readable
readable_ones size n readable w t e = sym (after_out (read_from size n 0 0 w t) _ readable (entries_ones size n w t) e)

-- its record is put first, and then its entries
pub batch_out : (size n number readable : ℕ) (w : List ℕ) (q : Tape) (o u v : Out) → ones readable ≡ count_bits n 0 readable → u ≡ put_entry o (output batch_output number (ones readable))
    → v ≡ put_all u (entries_from size n 0 readable w)
    → leaves v (ends {A = Unit {0}} (going tt) w q) ≡ leaves o (before (output batch_output number (count_bits n 0 readable) ∷ entries_from size n 0 readable w) (ends (going tt) w q))
unfolding put_all
batch_out size n number readable w q o u v g e f =
    rw (f, e, g) (sym (leaves_before o (output batch_output number (count_bits n 0 readable) ∷ entries_from size n 0 readable w) (ends {A = Unit {0}} (going tt) w q)))
