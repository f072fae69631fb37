-- What is taken stays taken, and what the words' tests say of it. Assumes nothing.
use Rattle.std.proofs.Common.{ℕ, zero, suc, ◌+◌, ◌≤◌, ◌<◌, ◌≡◌, refl, sym, ◌∙◌, List, Bool, true, false, cond, ◌&&◌, ◌||◌, not, Option, None, Some, arith, eqb, leb, eqb-true, eq-eqb, ne_eqb, leb-true, le-leb}
use Rattle.std.proofs.lemmas.Bool.{and_parts, or_left, and_from, false≢true, eqb-false}
use Rattle.std.proofs.Math.Bool.{or-true, or-false}
use Rattle.network.specs.declared.network_info.NetworkInfo.{NetworkInfo}
use Rattle.network.specs.Network.{num_correct}
use Rattle.steps.specs.Answers.{Rec}
use Rattle.steps.specs.Taken.{or_else, is_there, is_true, first_taken, of_value, of_decision, ones_from}
use Rattle.steps.proofs.TakenFromChain.{or_else_assoc, Bit}
use Rattle.subset.specs.Words.{record_length, load_proposal}
use Rattle.proposal.specs.Proposal.{accepted, complete}
use Rattle.subset.specs.Subset.{count_from, complete_from}
use Rattle.subset.specs.Rule.{settled_from, is_over}
use Rattle.proposal.proofs.TakenByProposal.{state_of}
use Rattle.subset.proofs.Counts.{ones_if, count_rises}
use Rattle.subset.proofs.Invariant.{Held}

-- WHAT GROWS: what is there stays as it is
abbrev pub Grown : Option ℕ → Option ℕ → Type 0
Grown a b = (x : ℕ) → a ≡ Some x → b ≡ Some x

pub grown_or : (a t : Option ℕ) → Grown a (or_else a t)
unfolding or_else
grown_or a t x e = rw e

-- p's alone is replaced
abbrev pub put : (ℕ → Option ℕ) → ℕ → Option ℕ → ℕ → Option ℕ
put g p x q = cond (eqb p q) x (g q)

pub put_same : (g : ℕ → Option ℕ) (p : ℕ) (x : Option ℕ) → put g p x p ≡ x
put_same g p x = rw (eq-eqb p p refl)

pub put_other : (g : ℕ → Option ℕ) (p : ℕ) (x : Option ℕ) (q : ℕ) → (q ≡ p → ⊥) → put g p x q ≡ g q
put_other g p x q ne = rw (ne_eqb p q (λ e. ne (sym e)))

-- p's is what it was or else t
abbrev pub more : (ℕ → Option ℕ) → ℕ → Option ℕ → ℕ → Option ℕ
more g p t = put g p (or_else (g p) t)

pub grown_more : (g : ℕ → Option ℕ) (p : ℕ) (t : Option ℕ) (q : ℕ) → Grown (g q) (more g p t q)
grown_more g p t q = go (eqb p q) refl
  where
    go : (x : Bool) → eqb p q ≡ x → Grown (g q) (cond x (or_else (g p) t) (g q))
    go true e = rw (eqb-true p q e) (grown_or (g q) t)
    go false e = λ x h. h

pub link_more : (g : ℕ → Option ℕ) (p q : ℕ) (t y : Option ℕ) → or_else (g q) (or_else (cond (eqb p q) t None) y) ≡ or_else (more g p t q) y
unfolding or_else
link_more g p q t y = go (eqb p q) refl
  where
    go : (x : Bool) → eqb p q ≡ x → or_else (g q) (or_else (cond x t None) y) ≡ or_else (cond x (or_else (g p) t) (g q)) y
    go true e = rw (eqb-true p q e) (sym (or_else_assoc (g q) t y))
    go false e = refl

-- between the chain ws and the rest r, what was taken went from v and d to v' and d'
pub record Linked (v d v' d' : ℕ → Option ℕ) (ws r : List Rec) : Type 0 where
  pub value : (q : ℕ) → or_else (v q) (first_taken of_value q ws) ≡ or_else (v' q) (first_taken of_value q r)
  pub decision : (q : ℕ) → or_else (d q) (first_taken of_decision q ws) ≡ or_else (d' q) (first_taken of_decision q r)
  pub grown_v : (q : ℕ) → Grown (v q) (v' q)
  pub grown_d : (q : ℕ) → Grown (d q) (d' q)

pub linked_same : (v d : ℕ → Option ℕ) (ws : List Rec) → Linked v d v d ws ws
linked_same v d ws = record { value = λ q. refl; decision = λ q. refl; grown_v = λ q x e. e; grown_d = λ q x e. e }

pub linked_then : {v d v' d' v'' d'' : ℕ → Option ℕ} {ws r z : List Rec} → Linked v d v' d' ws r → Linked v' d' v'' d'' r z → Linked v d v'' d'' ws z
linked_then a b = record {
  value = λ q. a.value q ∙ b.value q;
  decision = λ q. a.decision q ∙ b.decision q;
  grown_v = λ q x e. b.grown_v q x (a.grown_v q x e);
  grown_d = λ q x e. b.grown_d q x (a.grown_d q x e);
}

-- WHAT IS OVER STAYS OVER
abbrev pub cell : Option ℕ → Option ℕ → Bool
cell v d = is_there d && (not (is_true d) || is_there v)

cell_grows : (v d v' d' : Option ℕ) → Grown v v' → Grown d d' → cell v d ≡ true → cell v' d' ≡ true
unfolding is_there
cell_grows v None v' d' f g e = absurd (false≢true e)
cell_grows None (Some y) v' d' f g e = rw (g y refl) (or_left (not (is_true (Some y))) (is_there v') (sym (or-false (not (is_true (Some y)))) ∙ e))
cell_grows (Some x) (Some y) v' d' f g e = rw (g y refl, f x refl) (or-true (not (is_true (Some y))))

true_grows : (d d' : Option ℕ) → Grown d d' → is_true d ≡ true → is_true d' ≡ true
unfolding is_true
true_grows None d' g e = absurd (false≢true e)
true_grows (Some y) d' g e = rw (g y refl) e

module _ (v d v' d' : ℕ → Option ℕ) (gv : (q : ℕ) → Grown (v q) (v' q)) (gd : (q : ℕ) → Grown (d q) (d' q)) where
  settled_grows : (m p : ℕ) → settled_from v d m p ≡ true → settled_from v' d' m p ≡ true
  unfolding settled_from
  settled_grows zero p e = refl
  settled_grows (suc m) p e =
      let h = and_parts (cell (v p) (d p)) (settled_from v d m (p + 1)) e in
      and_from (cell (v' p) (d' p)) (settled_from v' d' m (p + 1)) (cell_grows (v p) (d p) (v' p) (d' p) (gv p) (gd p) h.0) (settled_grows m (p + 1) h.1)

  pub ones_grow : (m p : ℕ) → ones_from d m p ≤ ones_from d' m p
  ones_grow m p = rw (ones_if d m p, ones_if d' m p) (count_rises _ _ (λ q. true_grows (d q) (d' q) (gd q)) m p)

  pub over_grows : (net : NetworkInfo) → is_over net v d ≡ true → is_over net v' d' ≡ true
  unfolding is_over
  over_grows net e =
      let n = net.num_nodes in
      let h = and_parts (settled_from v d n 0) (leb (num_correct net) (ones_from d n 0)) e in
      let o = leb-true (num_correct net) (ones_from d n 0) h.1 in
      and_from (settled_from v' d' n 0) (leb (num_correct net) (ones_from d' n 0)) (settled_grows n 0 h.0) (le-leb (num_correct net) (ones_from d' n 0) (omega (arith, ones_grow n 0)))

-- WHAT IS SETTLED, proposer by proposer
pub settled_cell : (v d : ℕ → Option ℕ) (m p : ℕ) → settled_from v d m p ≡ true → (q : ℕ) → p ≤ q → q < p + m → cell (v q) (d q) ≡ true
unfolding settled_from
settled_cell v d zero p e q l h = absurd (omega arith)
settled_cell v d (suc m) p e q l h = go (eqb q p) refl (settled_cell v d m (p + 1) two.1 q)
  where
    two : (cell (v p) (d p) ≡ true) × (settled_from v d m (p + 1) ≡ true)
    two = and_parts (cell (v p) (d p)) (settled_from v d m (p + 1)) e

    go : (x : Bool) → eqb q p ≡ x → (p + 1 ≤ q → q < p + 1 + m → cell (v q) (d q) ≡ true) → cell (v q) (d q) ≡ true
    go true y f = rw (eqb-true q p y) two.0
    go false y f = let ne = eqb-false q p y in f (omega arith) (omega arith)

pub settled_decided : (v d : ℕ → Option ℕ) (m : ℕ) → settled_from v d m 0 ≡ true → (q : ℕ) → q < m → is_there (d q) ≡ true
settled_decided v d m e q l = (and_parts (is_there (d q)) (not (is_true (d q)) || is_there (v q)) (settled_cell v d m 0 e q (omega arith) (omega arith))).0

pub over_decided : (net : NetworkInfo) (v d : ℕ → Option ℕ) → is_over net v d ≡ true → (q : ℕ) → q < net.num_nodes → is_there (d q) ≡ true
unfolding is_over
over_decided net v d e = settled_decided v d net.num_nodes (and_parts (settled_from v d net.num_nodes 0) (leb (num_correct net) (ones_from d net.num_nodes 0)) e).0

pub ones_same : (d d' : ℕ → Option ℕ) → ((q : ℕ) → d q ≡ d' q) → (m i : ℕ) → ones_from d m i ≡ ones_from d' m i
unfolding ones_from
ones_same d d' h zero i = refl
ones_same d d' h (suc m) i = rw (h i, ones_same d d' h m (i + 1))

-- WHAT THE WORDS SAY
accepted_is : (v d : Option ℕ) → Bit d → accepted (state_of v d) ≡ is_true d
unfolding accepted is_true Bit
accepted_is None None b = refl
accepted_is (Some v) None b = refl
accepted_is None (Some zero) b = refl
accepted_is (Some v) (Some zero) b = refl
accepted_is None (Some (suc zero)) b = refl
accepted_is (Some v) (Some (suc zero)) b = refl
accepted_is v (Some (suc (suc d))) b = absurd (omega arith)

complete_is : (v d : Option ℕ) → Bit d → complete (state_of v d) ≡ cell v d
unfolding complete is_true is_there Bit
complete_is None None b = refl
complete_is (Some v) None b = refl
complete_is None (Some zero) b = refl
complete_is (Some v) (Some zero) b = refl
complete_is None (Some (suc zero)) b = refl
complete_is (Some v) (Some (suc zero)) b = refl
complete_is v (Some (suc (suc d))) b = absurd (omega arith)

module _ (old : ℕ → Bool) (n : ℕ) (w : List ℕ) (v d : ℕ → Option ℕ) (h : Held old n w v d) where
  pub accepted_ones : (m i : ℕ) → i + m ≤ n → count_from (record_length n) accepted m i w ≡ ones_from d m i
  unfolding count_from ones_from load_proposal
  accepted_ones zero i l = refl
  accepted_ones (suc m) i l = rw (h.load i (omega arith), accepted_is (v i) (d i) (h.bits i), accepted_ones m (i + 1) (omega arith))

  pub complete_settled : (m i : ℕ) → i + m ≤ n → complete_from (record_length n) m i w ≡ settled_from v d m i
  unfolding complete_from settled_from load_proposal
  complete_settled zero i l = refl
  complete_settled (suc m) i l = rw (h.load i (omega arith), complete_is (v i) (d i) (h.bits i), complete_settled m (i + 1) (omega arith))
