-- Counting and checking shares, case by case. Assumes nothing.
use Rattle.std.proofs.Common.{ℕ, zero, suc, ◌+◌, ◌-◌, ◌<◌, ◌≤◌, arith, ◌≡◌, refl, List, Bool, true, false, cond, not, length, get_or, drop, eqb, eq-eqb, ne_eqb, Ok, Err, add-one, drop-cons}
use Rattle.steps.specs.Answers.{Answer}
use Rattle.steps.specs.Answers.{Got}
use Rattle.steps.specs.Answers.{Tape, asked, ask_about}
use Rattle.std.specs.List.{count_by}
use Rattle.std.proofs.lemmas.List.{drop_all}
use Rattle.std.proofs.lemmas.List.Sums.{sum_by-cons}
use Rattle.steps.specs.declared.kinds.Failure.{Failure}
use Rattle.steps.specs.declared.kinds.Stop.{Stop}
use Rattle.steps.specs.declared.step.Writer.{Writer}
use Rattle.steps.specs.Steps.{Out}
use Rattle.steps.specs.Runs.{going, ends, onward, leaves}
use Rattle.steps.specs.Written.{out_of, left}
use Rattle.steps.proofs.LentRuns.{onward_ok, onward_err}
use Rattle.steps.proofs.RunLaws.{heard_got}
use Rattle.decryption.specs.Decrypt.{is_some, count_from, count_shares, is_share_valid, check_share, remove_from}
use Rattle.decryption.specs.declared.ThresholdDecrypt.{ThresholdDecrypt}

-- how many of the two flags are not set
abbrev pub unset : ThresholdDecrypt → ℕ
unset td = cond td.had_input 0 1 + cond td.terminated 0 1

-- whether a share is valid
module _ (sender : ℕ) (td : ThresholdDecrypt) (p : Tape) where
  pub valid_early : td.ciphertext ≡ 0 → is_share_valid sender td p ≡ ends (going true) td p
  unfolding is_share_valid
  valid_early z = rw (eq-eqb _ _ z)

  pub valid_told : (x : Answer) (q : Tape) → asked x q ≡ ask_about p 10 sender → (td.ciphertext ≡ 0 → ⊥) → (a b : ℕ) → x ≡ Got a b → is_share_valid sender td p ≡ ends (going (not (eqb a 0))) td q
  unfolding is_share_valid
  valid_told x q k z a b n = rw (ne_eqb _ _ z) (heard_got _ x q td _ k a b n)

-- counting by index is counting in order
counted : (n i : ℕ) (s : List ℕ) → i + n ≡ length s → count_from n i s ≡ count_by is_some (drop i s)
unfolding count_from
counted zero i s h = let l : length s ≤ i = omega arith in rw drop_all
counted (suc n) i s h =
    let l : i < length s = omega arith in
    rw (drop-cons s i 0, sum_by-cons (λ x. cond (is_some x) 1 0), counted n (i + 1) s (omega arith)) (tests (eqb (get_or s i 0) 0))
  where
    tests : (x : Bool) → cond x 0 1 + count_by is_some (drop (i + 1) s) ≡ cond (not x) 1 0 + count_by is_some (drop (suc i) s)
    tests true = rw add-one
    tests false = rw add-one

pub shares_counted : (s : List ℕ) → length s ≡ 16 → count_shares s ≡ count_by is_some s
shares_counted s e = counted 16 0 s (omega arith)

-- checking one sender more
module _ (i : ℕ) (td : ThresholdDecrypt) (p : Tape) (h : i < 16) where
  remove_step : remove_from (16 - i) i td p ≡ onward (check_share i td p) (λ _ td q. remove_from (16 - (i + 1)) (i + 1) td q)
  unfolding remove_from
  remove_step =
      let e : 16 - i ≡ suc (16 - (i + 1)) = omega arith in
      rw e

  module _ (s : ThresholdDecrypt) (q : Tape) (w : Writer) (o : Out) where
    pub remove_goes : left s (Ok tt) q w ≡ leaves o (check_share i td p) → leaves (out_of w) (remove_from (16 - (i + 1)) (i + 1) s q) ≡ leaves o (remove_from (16 - i) i td p)
    remove_goes e = rw remove_step (onward_ok _ _ _ _ w o tt e _ refl)

    pub remove_stops : (f : Stop Failure) → left s (Err f) q w ≡ leaves o (check_share i td p) → left s (Err f) q w ≡ leaves o (remove_from (16 - i) i td p)
    remove_stops f e = rw remove_step (onward_err _ _ _ _ w o f e)

pub remove_done : (i : ℕ) (td : ThresholdDecrypt) (p : Tape) → 16 ≤ i → remove_from (16 - i) i td p ≡ ends (going tt) td p
unfolding remove_from
remove_done i td p h =
    let e : 16 - i ≡ 0 = omega arith in
    rw e
