-- The list of contributions, and handling them: what the code leaves. Assumes nothing.
use Rattle.std.proofs.Common.{ℕ, suc, ◌+◌, ◌-◌, ◌<◌, arith, ◌≡◌, refl, sym, ap, ◌∙◌, List, Bool, true, false, length, get_or, set, get_or-set_same, get_or-set_other, eqb, ltb, eqb-true, ltb-true, ltb-false, Ok, Err}
use Rattle.std.proofs.Math.Seq.{set_out}
use Rattle.std.proofs.lemmas.Bool.{eqb-false}
use Rattle.steps.specs.declared.kinds.Failure.{Failure}
use Rattle.steps.specs.declared.kinds.Stop.{Stop}
use Rattle.steps.specs.declared.step.Writer.{Writer}
use Rattle.steps.specs.Written.{out_of, left}
use Rattle.steps.specs.Runs.{Run}
use Rattle.steps.proofs.LentRuns.{onward_ok, onward_err}
use Rattle.network.specs.declared.network_info.NetworkInfo.{NetworkInfo}
use Rattle.steps.specs.Answers.{Tape}
use Rattle.steps.specs.Steps.{Out}
use Rattle.steps.specs.Runs.{onward, Left, leaves}
use Rattle.subset.specs.Words.{count_at, value_at, arrival_at, contributor, drop_from}
use Rattle.epochwords.specs.declared.SubsetHandlingStrategy.{SubsetHandlingStrategy}
use Rattle.epochwords.specs.Shape.{Listed}
use Rattle.epochwords.specs.Words.{accept, DecryptionState, store_decryption}
use Rattle.epoch.specs.Epoch.{handle_contribution, handle_from}
use Rattle.steps.proofs.Logic.{anything}
use Rattle.steps.proofs.StateKept.{still}
use Rattle.epoch.proofs.Walk.{Handles, holds, handles_hold, contribution_keeps, handle_from_keeps}
use Rattle.epochwords.proofs.EntryStored.{accept_word, store_low, store_subset}

-- THE LIST of contributions stays while they are handled
module _ (n : ℕ) where
  listed_store : (p : ℕ) (d : DecryptionState) (w : List ℕ) → Listed n w → Listed n (store_decryption n w p d)
  listed_store p d w h =
      record {
        count = rw (store_low n p w d count_at (omega arith)) h.count;
        who = λ i l. rw (store_subset n p w d i 7 (omega arith) (λ e. refl)) (h.who i l);
      }

  listed_accept : (p : ℕ) (w : List ℕ) → Listed n w → Listed n (accept w p)
  listed_accept p w h =
      record {
        count = rw (accept_word w p count_at (λ e. omega arith)) h.count;
        who = λ i l. rw (accept_word w p (arrival_at n i) (λ e. omega arith)) (h.who i l);
      }

  rules : Handles anything still (holds n (Listed n) listed_store) n
  rules = handles_hold n (Listed n) listed_store listed_accept

-- as the code leaves it
module _ (net : NetworkInfo) (strategy : SubsetHandlingStrategy) (encrypted : Bool) where
  pub kept_contribution : (p value : ℕ) (w : List ℕ) (t : Tape) (o : Out) (d : Left (List ℕ) (Unit {0})) → d ≡ leaves o (handle_contribution net strategy encrypted p value w t)
      → Listed net.num_nodes w → Listed net.num_nodes d.state
  kept_contribution p value w t o d e h = rw e (contribution_keeps _ _ _ net (rules _) strategy encrypted p value tt tt 0 w t h)

  pub kept_from : (m i : ℕ) (w : List ℕ) (t : Tape) (o : Out) (d : Left (List ℕ) (Unit {0})) → d ≡ leaves o (handle_from net strategy encrypted m i w t)
      → Listed net.num_nodes w → Listed net.num_nodes d.state
  kept_from m i w t o d e h = rw e (handle_from_keeps _ _ _ net (rules _) strategy encrypted m i 0 w t h)

-- ONE MORE of the m contributions, whose proposer and value are these
module _ (net : NetworkInfo) (strategy : SubsetHandlingStrategy) (encrypted : Bool) (m i : ℕ) (w : List ℕ) (t : Tape) where
  abbrev rest : Unit {0} → List ℕ → Tape → Run (List ℕ) (Unit {0})
  rest _ w t = handle_from net strategy encrypted (m - (i + 1)) (i + 1) w t

  pub each_turn : i < m → (p value : ℕ) → p ≡ contributor net.num_nodes w i → value ≡ get_or w (value_at net.num_nodes p) 0
      → handle_from net strategy encrypted (m - i) i w t ≡ onward (handle_contribution net strategy encrypted p value w t) rest
  unfolding handle_from
  each_turn h p value who what =
      let e : m - i ≡ suc (m - (i + 1)) = omega arith in
      rw (e, what, who)

  module _ (h : i < m) (p value : ℕ) (who : p ≡ contributor net.num_nodes w i) (what : value ≡ get_or w (value_at net.num_nodes p) 0) (s : List ℕ) (q : Tape) (x : Writer) (o : Out) where
    pub each_goes : left s (Ok tt) q x ≡ leaves o (handle_contribution net strategy encrypted p value w t)
        → leaves (out_of x) (handle_from net strategy encrypted (m - (i + 1)) (i + 1) s q) ≡ leaves o (handle_from net strategy encrypted (m - i) i w t)
    each_goes e = onward_ok s q _ rest x o tt e _ refl ∙ ap (leaves o) (sym (each_turn h p value who what))

    pub each_stops : (f : Stop Failure) → left {A = Unit {0}} s (Err f) q x ≡ leaves o (handle_contribution net strategy encrypted p value w t)
        → left {A = Unit {0}} s (Err f) q x ≡ leaves o (handle_from net strategy encrypted (m - i) i w t)
    each_stops f e = onward_err s q _ rest x o f e ∙ ap (leaves o) (sym (each_turn h p value who what))

-- THE LIST IS CUT: one entry more
module _ (n m i : ℕ) (w : List ℕ) where
  pub cut_turn : i < m → drop_from n (m - i) i w ≡ drop_from n (m - (i + 1)) (i + 1) (set (set w (value_at n (contributor n w i)) 0) (arrival_at n i) 0)
  unfolding drop_from
  cut_turn h =
      let e : m - i ≡ suc (m - (i + 1)) = omega arith in
      rw e

-- a word stays below n where a number below n is written
pub set_below : (w : List ℕ) (i j x n : ℕ) → x < n → get_or w j 0 < n → get_or (set w i x) j 0 < n
set_below w i j x n h k = go (eqb j i) refl (ltb i (length w)) refl
  where
    go : (a : Bool) → eqb j i ≡ a → (b : Bool) → ltb i (length w) ≡ b → get_or (set w i x) j 0 < n
    go true e true l = rw (eqb-true j i e, get_or-set_same w i x 0 (ltb-true i (length w) l)) h
    go true e false l = rw (set_out w i x (ltb-false i (length w) l)) k
    go false e b l = rw (get_or-set_other w i j x 0 (eqb-false j i e)) k

pub cut_who : (n i : ℕ) (w : List ℕ) → i < n → ((j : ℕ) → j < n → contributor n w j < n)
    → (j : ℕ) → j < n → contributor n (set (set w (value_at n (contributor n w i)) 0) (arrival_at n i) 0) j < n
cut_who n i w h f j l =
    set_below (set w (value_at n (contributor n w i)) 0) (arrival_at n i) (arrival_at n j) 0 n (omega arith)
    (set_below w (value_at n (contributor n w i)) (arrival_at n j) 0 n (omega arith) (f j l))

-- and the list stays one
pub listed_cut : (n i : ℕ) (w : List ℕ) → i < n → Listed n w → Listed n (set (set w (value_at n (contributor n w i)) 0) (arrival_at n i) 0)
listed_cut n i w l h =
    record {
      count = rw (get_or-set_other (set w (value_at n (contributor n w i)) 0) (arrival_at n i) count_at 0 0 (λ e. omega arith), get_or-set_other w (value_at n (contributor n w i)) count_at 0 0 (λ e. omega arith)) h.count;
      who = cut_who n i w l h.who;
    }
