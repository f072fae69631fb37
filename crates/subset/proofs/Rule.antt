-- THE PAPER'S RULE holds of every run of the subset (`subset_rule`). Assumes nothing.
use Rattle.std.proofs.Common.{ℕ, zero, suc, ◌+◌, ◌≤◌, ◌<◌, ◌≡◌, refl, sym, ap, ◌∙◌, subst₂, ◌⊎◌, inl, inr, List, [], ◌∷◌, ◌++◌, Bool, true, false, cond, Option, None, Some, arith, get_or, replicate, length-set, get_or-set_other, eqb, eqb-true}
use Rattle.std.proofs.Math.Path.{fun_ext}
use Rattle.std.proofs.lemmas.List.{length-replicate}
use mathlib.Core.List.Memᴰ
use mathlib.Core.List.{Memᴰ}
use Rattle.std.proofs.lemmas.Bool.{and_parts, false≢true, eqb-false}
use Rattle.network.specs.declared.network_info.NetworkInfo.{NetworkInfo}
use Rattle.network.specs.Network.{Network}
use Rattle.steps.specs.Answers.{Rec, Tape, tape_of}
use Rattle.steps.specs.Table.{table_ok}
use Rattle.steps.specs.Taken.{or_else, is_there, first_taken, of_value, of_decision}
use Rattle.steps.specs.Steps.{Entry}
use Rattle.steps.specs.Runs.{Verdict, going, refused, failed}
use Rattle.steps.proofs.TakenFromChain.{or_else_none, or_else_assoc, Bit, table_good}
use Rattle.subset.specs.Words.{new_epoch, epoch_length, decided_at, count_at, proposal_at, value_at, arrival_at, proposal_of, load_proposal}
use Rattle.subset.specs.Rule.{settled_from, is_over, SubsetEvent, answers, tables_ok, taken_by, run_of, words_as, then_words, words_after, Contribution, contributions_from, contributions, speaks, SubsetRule}
use Rattle.steps.proofs.GivenWithLog.{GivesAs}
use Rattle.steps.proofs.Ranges.{zeros_at}
use Rattle.proposal.proofs.TakenByProposal.{output_of}
use Rattle.subset.proofs.Counts.{count_if}
use Rattle.subset.proofs.Invariant.{Held, is_new}
use Rattle.subset.proofs.TakenByCall.{Called, call_ok}
use Rattle.subset.proofs.VotesAsked.{Whole, voted_whole}

abbrev nothing : ℕ → Option ℕ
nothing q = None

-- nobody's contribution has been taken out of the list
abbrev none_old : ℕ → Bool
none_old q = false

-- what was taken, and then more of a chain
abbrev after : (ℕ → Bool) → (ℕ → Option ℕ) → List Rec → ℕ → Option ℕ
after is g ws q = or_else (g q) (first_taken is q ws)

-- BETWEEN CALLS: the words hold what was taken, and say whether the subset is over
pub record Known (net : NetworkInfo) (w : List ℕ) (v d : ℕ → Option ℕ) : Type 0 where
  pub held : Held none_old net.num_nodes w v d
  pub decided : get_or w decided_at 0 ≡ cond (is_over net v d) 1 0

-- ONE CALL that reads its whole chain
pub record Next (net : NetworkInfo) (comes : Bool) (v d : ℕ → Option ℕ) (ws : List Rec) (w' : List ℕ) : Type 0 where
  pub known : Known net w' (after of_value v ws) (after of_decision d ws)
  pub votes : Whole net comes v d ws

next_call : (net : NetworkInfo) (comes : Bool) (v d : ℕ → Option ℕ) (ws : List Rec) (w' : List ℕ) → (done : Bool) → Called none_old net comes v d ws done w' [] → Next net comes v d ws w'
unfolding or_else first_taken
next_call net comes v d ws w' done c =
    let values : (q : ℕ) → c.v' q ≡ after of_value v ws q = λ q. sym (c.linked.value q ∙ or_else_none (c.v' q)) in
    let decisions : (q : ℕ) → c.d' q ≡ after of_decision d ws q = λ q. sym (c.linked.decision q ∙ or_else_none (c.d' q)) in
    record {
      known = subst₂ (λ (a b : ℕ → Option ℕ). Known net w' a b) (fun_ext values) (fun_ext decisions) (record { held = c.held; decided = c.decided });
      votes = voted_whole net comes v d ws c.votes;
    }

module _ (net : NetworkInfo) (comes : Bool) (v d : ℕ → Option ℕ) where
  read_whole : (ws : List Rec) (w' : List ℕ) (verdict : Verdict Bool) (p : Tape) (s : List ℕ) (log : List Entry) → GivesAs verdict s p log (λ done t z l. Called none_old net comes v d ws done t z.rest)
      → words_as net verdict p.rest s ≡ Some w' → Next net comes v d ws w'
  unfolding words_as
  read_whole ws w' (going done) p s log c e = go p.rest c e
    where
      go : (l : List Rec) → Called none_old net comes v d ws done s l → words_as net (going done) l s ≡ Some w' → Next net comes v d ws w'
      go [] c e = let z : s ≡ w' = cc in next_call net comes v d ws w' done (rw z at c)
      go (r ∷ rs) c e = let z : ◌≡◌ {A = ℕ} 0 1 = cc in absurd (omega arith)
  read_whole ws w' refused p s log c e = let z : ◌≡◌ {A = ℕ} 0 1 = cc in absurd (omega arith)
  read_whole ws w' (failed error) p s log c e = let z : ◌≡◌ {A = ℕ} 0 1 = cc in absurd (omega arith)

-- the words after one call
abbrev words_of : NetworkInfo → List ℕ → SubsetEvent → Option (List ℕ)
words_of net w x =
    let r = run_of net x.call w (tape_of x.table) in
    words_as net r.verdict r.tape.rest r.state

one_call : (net : NetworkInfo) (w : List ℕ) (v d : ℕ → Option ℕ) (x : SubsetEvent) (w' : List ℕ) → Known net w v d → table_ok net.num_nodes x.table ≡ true
    → words_of net w x ≡ Some w' → Next net (speaks net x.call) v d (answers x) w'
one_call net w v d x w' k t e =
    let r = run_of net x.call w (tape_of x.table) in
    read_whole net (speaks net x.call) v d (answers x) w' r.verdict r.tape r.state r.log
    (call_ok none_old net w v d k.held (tape_of x.table) (table_good net.num_nodes x.table t) k.decided x.call) e

-- A RUN
abbrev up_to : (ℕ → Bool) → (ℕ → Option ℕ) → List SubsetEvent → ℕ → Option ℕ
up_to is g h q = or_else (g q) (taken_by is h q)

up_to_cons : (is : ℕ → Bool) (g : ℕ → Option ℕ) (x : SubsetEvent) (h : List SubsetEvent) → up_to is (after is g (answers x)) h ≡ up_to is g (x ∷ h)
unfolding taken_by
up_to_cons is g x h = fun_ext (λ q. or_else_assoc (g q) (first_taken is q (answers x)) (taken_by is h q))

run_known : (net : NetworkInfo) (h : List SubsetEvent) (w : List ℕ) (v d : ℕ → Option ℕ) (w' : List ℕ) → Known net w v d → tables_ok net.num_nodes h ≡ true
    → words_after net w h ≡ Some w' → Known net w' (up_to of_value v h) (up_to of_decision d h)
unfolding words_after tables_ok taken_by then_words
run_known net [] w v d w' k t e =
    let z : w ≡ w' = cc in
    subst₂ (λ (a b : ℕ → Option ℕ). Known net w' a b) (fun_ext (λ q. sym (or_else_none (v q)))) (fun_ext (λ q. sym (or_else_none (d q)))) (rw z at k)
run_known net (x ∷ xs) w v d w' k t e =
    go (words_of net w x) refl e (λ w₁ k₁ f. run_known net xs w₁ (after of_value v (answers x)) (after of_decision d (answers x)) w' k₁ ok.1 f)
  where
    ok : (table_ok net.num_nodes x.table ≡ true) × (tables_ok net.num_nodes xs ≡ true)
    ok = and_parts (table_ok net.num_nodes x.table) (tables_ok net.num_nodes xs) t

    go : (o : Option (List ℕ)) → words_of net w x ≡ o → then_words net o (λ w. words_after net w xs) ≡ Some w'
        → ((w₁ : List ℕ) → Known net w₁ (after of_value v (answers x)) (after of_decision d (answers x)) → words_after net w₁ xs ≡ Some w'
        → Known net w' (up_to of_value (after of_value v (answers x)) xs) (up_to of_decision (after of_decision d (answers x)) xs))
        → Known net w' (up_to of_value v (x ∷ xs)) (up_to of_decision d (x ∷ xs))
    go None o e f = let z : ◌≡◌ {A = ℕ} 0 1 = cc in absurd (omega arith)
    go (Some w₁) o e f =
        subst₂ (λ (a b : ℕ → Option ℕ). Known net w' a b) (up_to_cons of_value v x xs) (up_to_cons of_decision d x xs)
        (f w₁ (one_call net w v d x w₁ k ok.0 o).known e)

-- the words before the last call
record Split (net : NetworkInfo) (w : List ℕ) (h : List SubsetEvent) (x : SubsetEvent) (w' : List ℕ) : Type 0 where
  between : List ℕ
  first : words_after net w h ≡ Some between
  last : words_of net between x ≡ Some w'

run_split : (net : NetworkInfo) (h : List SubsetEvent) (w : List ℕ) (x : SubsetEvent) (w' : List ℕ) → words_after net w (h ++ (x ∷ [])) ≡ Some w' → Split net w h x w'
unfolding words_after then_words
run_split net [] w x w' e = go (words_of net w x) refl e
  where
    go : (o : Option (List ℕ)) → words_of net w x ≡ o → then_words net o (λ w. words_after net w []) ≡ Some w' → Split net w [] x w'
    go None o e = let z : ◌≡◌ {A = ℕ} 0 1 = cc in absurd (omega arith)
    go (Some w₁) o e = record { between = w; first = refl; last = o ∙ e }
run_split net (y ∷ ys) w x w' e = go (words_of net w y) refl e (λ w₁ f. run_split net ys w₁ x w' f)
  where
    go : (o : Option (List ℕ)) → words_of net w y ≡ o → then_words net o (λ w. words_after net w (ys ++ (x ∷ []))) ≡ Some w'
        → ((w₁ : List ℕ) → words_after net w₁ (ys ++ (x ∷ [])) ≡ Some w' → Split net w₁ ys x w') → Split net w (y ∷ ys) x w'
    go None o e f = let z : ◌≡◌ {A = ℕ} 0 1 = cc in absurd (omega arith)
    go (Some w₁) o e f =
        let s = f w₁ e in
        record { between = s.between; first = rw o s.first; last = s.last }

tables_split : (n : ℕ) (h : List SubsetEvent) (x : SubsetEvent) → tables_ok n (h ++ (x ∷ [])) ≡ true → (tables_ok n h ≡ true) × (table_ok n x.table ≡ true)
unfolding tables_ok
tables_split n [] x t = (refl, (and_parts (table_ok n x.table) true t).0)
tables_split n (y ∷ ys) x t =
    let a = and_parts (table_ok n y.table) (tables_ok n (ys ++ (x ∷ []))) t in
    let b = tables_split n ys x a.1 in
    (rw a.0 b.0, b.1)

taken_last : (is : ℕ → Bool) (h : List SubsetEvent) (x : SubsetEvent) (q : ℕ) → or_else (taken_by is h q) (first_taken is q (answers x)) ≡ taken_by is (h ++ (x ∷ [])) q
unfolding taken_by or_else
taken_last is [] x q = sym (or_else_none (first_taken is q (answers x)))
taken_last is (y ∷ ys) x q = or_else_assoc (first_taken is q (answers y)) (taken_by is ys q) (first_taken is q (answers x)) ∙ ap (or_else (first_taken is q (answers y))) (taken_last is ys x q)

-- THE BLANK EPOCH
count_none : (old : ℕ → Bool) (m i : ℕ) → count_if (is_new old nothing nothing) m i ≡ 0
unfolding count_if is_there
count_none old zero i = refl
count_none old (suc m) i = omega (arith, count_none old m (i + 1))

unsettled : (m p : ℕ) → 1 ≤ m → settled_from nothing nothing m p ≡ false
unfolding settled_from is_there
unsettled zero p h = absurd (omega arith)
unsettled (suc m) p h = refl

pub new_over : (net : NetworkInfo) → Network net → is_over net nothing nothing ≡ false
unfolding is_over
new_over net k = rw (unsettled net.num_nodes 0 k.some)

pub new_word : (n i : ℕ) → (i ≡ 0 → ⊥) → get_or (new_epoch n) i 0 ≡ 0
unfolding new_epoch
new_word n i ne = get_or-set_other (replicate (epoch_length n) 0) 0 i 1 0 ne ∙ zeros_at (epoch_length n) i

pub new_held : (old : ℕ → Bool) → ((q : ℕ) → old q ≡ false) → (n : ℕ) → Held old n (new_epoch n) nothing nothing
unfolding new_epoch load_proposal proposal_of is_there Bit
new_held old f n = record {
  size = length-set (replicate (epoch_length n) 0) 0 1 ∙ length-replicate (epoch_length n) 0;
  load = λ q l. rw (new_word n (proposal_at n q) (λ e. omega arith));
  bits = λ q. tt;
  count = new_word n count_at (λ e. omega arith) ∙ sym (count_none old n 0);
  gone = λ q t. absurd (false≢true (sym (f q) ∙ t));
  listed = λ q l t f. absurd (false≢true t);
  entries = λ i q l e. absurd (omega (arith, new_word n count_at (λ e. omega arith)));
  once = λ i j l r e. absurd (omega (arith, new_word n count_at (λ e. omega arith)));
  fresh = λ i l. f (get_or (new_epoch n) (arrival_at n i) 0);
}

new_known : (net : NetworkInfo) → Network net → Known net (new_epoch net.num_nodes) nothing nothing
new_known net k = record {
  held = new_held none_old (λ q. refl) net.num_nodes;
  decided = new_word net.num_nodes decided_at (λ e. omega arith) ∙ sym (rw (new_over net k));
}

-- after any run from a new epoch
taken_known : (net : NetworkInfo) (h : List SubsetEvent) (w : List ℕ) → Network net → tables_ok net.num_nodes h ≡ true
    → words_after net (new_epoch net.num_nodes) h ≡ Some w → Known net w (taken_by of_value h) (taken_by of_decision h)
unfolding or_else
taken_known net h w k t e = run_known net h (new_epoch net.num_nodes) nothing nothing w (new_known net k) t e

-- THE CONTRIBUTIONS
abbrev entry : ℕ → List ℕ → ℕ → Contribution
entry n w j = record { proposer = get_or w (arrival_at n j) 0; value = get_or w (value_at n (get_or w (arrival_at n j) 0)) 0 }

record Found (n m i : ℕ) (w : List ℕ) (c : Contribution) : Type 0 where
  index : ℕ
  below : index < i + m
  is : c ≡ entry n w index

member_found : (n m i : ℕ) (w : List ℕ) (c : Contribution) → Memᴰ c (contributions_from n m i w) → Found n m i w c
unfolding contributions_from
member_found n zero i w c h = absurd (Memᴰ.not-nil h)
member_found n (suc m) i w c h = go (Memᴰ.cases_cons h) (member_found n m (i + 1) w c)
  where
    go : (c ≡ entry n w i) ⊎ Memᴰ c (contributions_from n m (i + 1) w) → (Memᴰ c (contributions_from n m (i + 1) w) → Found n m (i + 1) w c) → Found n (suc m) i w c
    go (inl e) f = record { index = i; below = omega arith; is = e }
    go (inr t) f = let r = f t in record { index = r.index; below = omega (arith, r.below); is = r.is }

found_member : (n m i : ℕ) (w : List ℕ) (c : Contribution) (j : ℕ) → i ≤ j → j < i + m → c ≡ entry n w j → Memᴰ c (contributions_from n m i w)
unfolding contributions_from
found_member n zero i w c j l h e = absurd (omega arith)
found_member n (suc m) i w c j l h e = go (eqb j i) refl (found_member n m (i + 1) w c j)
  where
    go : (x : Bool) → eqb j i ≡ x → (i + 1 ≤ j → j < i + 1 + m → c ≡ entry n w j → Memᴰ c (contributions_from n m (i + 1) w)) → Memᴰ c (entry n w i ∷ contributions_from n m (i + 1) w)
    go true x f = Memᴰ.head (e ∙ ap (entry n w) (eqb-true j i x))
    go false x f = let ne = eqb-false j i x in Memᴰ.tail (f (omega arith) (omega arith) e)

-- an output is of a value decided 1
output_of_lem : (a b : Option ℕ) (x : ℕ) → Bit b → output_of a b ≡ Some x → (b ≡ Some 1) × (a ≡ Some x)
unfolding Bit
output_of_lem None b x k e = let z : ◌≡◌ {A = ℕ} 0 1 = cc in absurd (omega arith)
output_of_lem (Some v) None x k e = let z : ◌≡◌ {A = ℕ} 0 1 = cc in absurd (omega arith)
output_of_lem (Some v) (Some zero) x k e = let z : ◌≡◌ {A = ℕ} 0 1 = cc in absurd (omega arith)
output_of_lem (Some v) (Some (suc zero)) x k e = (refl, e)
output_of_lem (Some v) (Some (suc (suc d))) x k e = absurd (omega arith)

module _ (net : NetworkInfo) (w : List ℕ) (v d : ℕ → Option ℕ) (k : Known net w v d) where
  abbrev n : ℕ
  n = net.num_nodes

  known_done : eqb (get_or w decided_at 0) 1 ≡ is_over net v d
  known_done = rw k.decided (go (is_over net v d))
    where
      go : (x : Bool) → eqb (cond x 1 0) 1 ≡ x
      go true = refl
      go false = refl

  known_others : (c : Contribution) → Memᴰ c (contributions n w) → (c.proposer < n) × (d c.proposer ≡ Some 1) × (v c.proposer ≡ Some c.value)
  known_others c h =
      let f = member_found n (get_or w count_at 0) 0 w c h in
      let who : get_or w (arrival_at n f.index) 0 ≡ c.proposer = sym (ap (λ x. x.proposer) f.is) in
      let word : get_or w (value_at n c.proposer) 0 ≡ c.value = ap (λ q. get_or w (value_at n q) 0) (sym who) ∙ sym (ap (λ x. x.value) f.is) in
      let t = k.held.entries f.index c.proposer (omega (arith, f.below)) who in
      let o = output_of_lem (v c.proposer) (d c.proposer) (get_or w (value_at n c.proposer) 0) (k.held.bits c.proposer) t.1 in
      (t.0, o.0, o.1 ∙ ap Some word)

  known_handed : (p x : ℕ) → d p ≡ Some 1 → v p ≡ Some x → p < n → Memᴰ (record { proposer = p; value = x }) (contributions n w)
  unfolding is_there
  known_handed p x e f l =
      let i = k.held.listed p l (rw (e, f)) refl in
      let t : output_of (v p) (d p) ≡ Some (get_or w (value_at n p) 0) = (k.held.entries i.index p i.below i.who).1 in
      let here : Some x ≡ Some (get_or w (value_at n p) 0) = rw (e, f) at t in
      let word : x ≡ get_or w (value_at n p) 0 = cc in
      found_member n (get_or w count_at 0) 0 w (record { proposer = p; value = x }) i.index (omega arith) (omega (arith, i.below)) (rw (i.who, word))

-- THE RULE
pub subset_rule : SubsetRule
subset_rule net h x w k t e =
    let ts = tables_split net.num_nodes h x t in
    let s = run_split net h (new_epoch net.num_nodes) x w e in
    let known = taken_known net h s.between k ts.0 s.first in
    let next = one_call net s.between (taken_by of_value h) (taken_by of_decision h) x w known ts.1 s.last in
    let all : Known net w (taken_by of_value (h ++ (x ∷ []))) (taken_by of_decision (h ++ (x ∷ []))) =
    subst₂ (λ (a b : ℕ → Option ℕ). Known net w a b) (fun_ext (taken_last of_value h x)) (fun_ext (taken_last of_decision h x)) next.known in
    record {
      vote_one = next.votes.one;
      vote_zero = next.votes.zero;
      broadcasts = next.votes.broadcast;
      agrees = next.votes.agreement;
      done = known_done net w _ _ all;
      handed_up = λ p v a b l. known_handed net w _ _ all p v a b l;
      no_others = λ c m. known_others net w _ _ all c m;
      handed_once = all.held.once;
    }
