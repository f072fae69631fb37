-- Laws of the answer chain and of the entries of a step. Assumes nothing.
use Rattle.std.proofs.Common.{ℕ, zero, suc, ◌+◌, ◌*◌, ◌/◌, ◌≤◌, ◌<◌, ◌⊎◌, inl, inr, ⊎_elim, ◌≡◌, refl, sym, ap, ◌∙◌, List, [], ◌∷◌, ◌++◌, Bool, true, false, arith, length, get_or, ltb, ltb-true, ltb-false, lt-ltb, le-ltb}
use Rattle.steps.specs.Steps.{Entry, message, fault, output, Out, out, Chained, chained, advance, put_at, put_entry, put_all}
use Rattle.steps.specs.declared.step.Chain.{Chain}
use Rattle.steps.specs.declared.step.Step.{Step}
use Rattle.std.proofs.Math.Bool.{and-false}
use Rattle.std.proofs.lemmas.Bool.{and_parts}
use Rattle.steps.specs.Answers.{link, rec_at, on_record, walk, chain}

-- a place that is on a record is above 0, and within the table
pub on_record_lem : (t : List ℕ) (i : ℕ) → 0 < i → i < length t / 4 → on_record t i ≡ true
unfolding on_record
on_record_lem t i p q = simp (lt-ltb 0 i p, lt-ltb i (length t / 4) q)

pub on_bounds : (t : List ℕ) (i : ℕ) → on_record t i ≡ true → (0 < i) × (i < length t / 4)
unfolding on_record
on_bounds t i e = let h = and_parts _ _ e in (ltb-true 0 i h.0, ltb-true i (length t / 4) h.1)

pub off_at_zero : (t : List ℕ) → on_record t 0 ≡ false
unfolding on_record
off_at_zero t = refl

pub off_past : (t : List ℕ) (i : ℕ) → length t / 4 ≤ i → on_record t i ≡ false
unfolding on_record
off_past t i h = rw (le-ltb i (length t / 4) h) (and-false (ltb 0 i))

-- off a record nothing is read
walk_off : (n : ℕ) (t : List ℕ) (i : ℕ) → on_record t i ≡ false → walk n t i ≡ []
unfolding walk
walk_off zero t i e = refl
walk_off (suc n) t i e = rw (e, walk)

walk_on : (n : ℕ) (t : List ℕ) (i : ℕ) → on_record t i ≡ true → walk (suc n) t i ≡ rec_at t i ∷ walk n t (link t i)
unfolding walk
walk_on n t i e = rw (e, walk)

-- the link is the end, or above its record
pub link_up : (t : List ℕ) (i : ℕ) → i < get_or t (i * 4) 0 → link t i ≡ get_or t (i * 4) 0
unfolding link
link_up t i h = rw (lt-ltb i (get_or t (i * 4) 0) h)

pub link_end : (t : List ℕ) (i : ℕ) → get_or t (i * 4) 0 ≤ i → link t i ≡ 0
unfolding link
link_end t i h = rw (le-ltb i (get_or t (i * 4) 0) h)

link_cases : (t : List ℕ) (i : ℕ) → (link t i ≡ 0) ⊎ (i < link t i)
link_cases t i = go (ltb i (get_or t (i * 4) 0)) refl
  where
    go : (x : Bool) → ltb i (get_or t (i * 4) 0) ≡ x → (link t i ≡ 0) ⊎ (i < link t i)
    go true e = let h = ltb-true _ _ e in inr (rw (link_up t i h) h)
    go false e = inl (link_end t i (ltb-false _ _ e))

linked : (n : ℕ) (t : List ℕ) (i : ℕ) → length t ≤ suc n + i → (length t ≤ n + link t i → walk (suc n) t (link t i) ≡ walk n t (link t i)) → walk (suc n) t (link t i) ≡ walk n t (link t i)
linked n t i h f = ⊎_elim (λ z. rw z (walk_off (suc n) t 0 (off_at_zero t) ∙ sym (walk_off n t 0 (off_at_zero t)))) (λ u. f (omega arith)) (link_cases t i)

-- more turns than the table has words make no difference
walk_more : (n : ℕ) (t : List ℕ) (i : ℕ) → length t ≤ n + i → walk (suc n) t i ≡ walk n t i
walk_more zero t i h = walk_off 1 t i (off_past t i (omega arith)) ∙ sym (walk_off 0 t i (off_past t i (omega arith)))
walk_more (suc n) t i h = go (on_record t i) refl (linked n t i h (λ u. walk_more n t (link t i) u))
  where
    go : (x : Bool) → on_record t i ≡ x → walk (suc n) t (link t i) ≡ walk n t (link t i) → walk (suc (suc n)) t i ≡ walk (suc n) t i
    go false e r = walk_off (suc (suc n)) t i e ∙ sym (walk_off (suc n) t i e)
    go true e r = walk_on (suc n) t i e ∙ ap (λ rs. rec_at t i ∷ rs) r ∙ sym (walk_on n t i e)

-- THE BRIDGE. On a record the chain is that record and the chain from its link on; elsewhere it is empty
pub chain_on : (t : List ℕ) (i : ℕ) → on_record t i ≡ true → chain t i ≡ rec_at t i ∷ chain t (link t i)
unfolding chain
chain_on t i e = go (on_bounds t i e) (length t) (omega arith)
  where
    go : (0 < i) × (i < length t / 4) → (n : ℕ) → length t ≤ n → walk n t i ≡ rec_at t i ∷ walk n t (link t i)
    go b zero h = absurd (omega arith)
    go b (suc n) h = walk_on n t i e ∙ ap (λ rs. rec_at t i ∷ rs) (sym (linked n t i (omega arith) (λ u. walk_more n t (link t i) u)))

pub chain_off : (t : List ℕ) (i : ℕ) → on_record t i ≡ false → chain t i ≡ []
unfolding chain
chain_off t i e = walk_off (length t) t i e

-- entries in two parts
pub put_all_append : (o : Out) (l m : List Entry) → put_all o (l ++ m) ≡ put_all (put_all o l) m
unfolding put_all
put_all_append o [] m = refl
put_all_append o (e ∷ l) m = put_all_append (put_entry o e) l m

pub put_all_one : (o : Out) (e : Entry) → put_all o (e ∷ []) ≡ put_entry o e
unfolding put_all
put_all_one o e = refl

-- an entry, from what `put` left of its chain
module _ (s : Step) (w v : List ℕ) (d : Chain) (k a b : ℕ) where
  pub message_put : chained d v ≡ chained (advance s.messages) (put_at w s.messages k a b)
      → out (record { messages = d; faults = s.faults; outputs = s.outputs }) v ≡ put_entry (out s w) (message k a b)
  unfolding put_entry
  message_put e = ap (λ (x : Chained). out (record { messages = x.chain; faults = s.faults; outputs = s.outputs }) x.words) e

  pub fault_put : chained d v ≡ chained (advance s.faults) (put_at w s.faults k a b)
      → out (record { messages = s.messages; faults = d; outputs = s.outputs }) v ≡ put_entry (out s w) (fault k a b)
  unfolding put_entry
  fault_put e = ap (λ (x : Chained). out (record { messages = s.messages; faults = x.chain; outputs = s.outputs }) x.words) e

  pub output_put : chained d v ≡ chained (advance s.outputs) (put_at w s.outputs k a b)
      → out (record { messages = s.messages; faults = s.faults; outputs = d }) v ≡ put_entry (out s w) (output k a b)
  unfolding put_entry
  output_put e = ap (λ (x : Chained). out (record { messages = s.messages; faults = s.faults; outputs = x.chain }) x.words) e

-- a rehearsal over other words, an empty table too, moves the places as the run itself does
entry_moves : (s : Step) (v w : List ℕ) (e : Entry) → (put_entry (out s v) e).step ≡ (put_entry (out s w) e).step
unfolding put_entry
entry_moves s v w (message k a b) = refl
entry_moves s v w (fault k a b) = refl
entry_moves s v w (output k a b) = refl

pub rehearsed : (l : List Entry) (x y : Out) → x.step ≡ y.step → (put_all x l).step ≡ (put_all y l).step
unfolding put_all
rehearsed [] x y e = e
rehearsed (n ∷ l) x y e = rehearsed l (put_entry x n) (put_entry y n) (entry_moves x.step x.words y.words n ∙ ap (λ s. (put_entry (out s y.words) n).step) e)
