-- HOW MANY ENTRIES A RUN WRITES: at most one for each record that it reads, and some more that its definition allows. Assumes nothing.
use Rattle.std.proofs.Common.{ℕ, zero, suc, ◌+◌, ◌*◌, ◌/◌, ◌≤◌, ◌<◌, ◌≡◌, refl, ◌⊎◌, inl, inr, List, [], ◌∷◌, Bool, true, false, cond, ◌&&◌, Option, None, arith, length, get_or, length-append, eqb, ltb, leb-true, ltb-true, ltb-false}
use Rattle.std.proofs.lemmas.Bool.{and_parts, false≢true}
use Rattle.steps.specs.declared.reader.Content.{Content}
use Rattle.steps.specs.Answers.{Answer}
use Rattle.steps.specs.Answers.{Got, Refused}
use Rattle.steps.specs.Table.{shape_ok, table_ok}
use Rattle.steps.specs.Answers.{Rec, Tape, tape, link, rec_at, on_record, walk, chain, tape_of, Asked, asked, ask_for, ask, ask_about}
use Rattle.steps.specs.Steps.{Entry, message, fault}
use Rattle.steps.specs.Runs.{Verdict, going, refused, failed, Run, ends, before, onward_as, onward, heard_as, heard}
use Rattle.steps.specs.Parts.{is_part, message_kind, fault_kind, part_entries, last_output, PartsTold, parts_from, read_parts}
use Rattle.steps.proofs.ChainLaws.{on_bounds, link_up, link_end}
use Rattle.steps.proofs.Parts.{parts_on, parts_off}
use Rattle.steps.proofs.Ranges.{by_test}
use Rattle.steps.proofs.Logic.{Hand, hand, nothing, anything, Logic, Stateless}

-- a run from tape p that writes at most one entry for each record it reads, and `more` besides
pub record Bounded {S A : Type 0} (more : ℕ) (p : Tape) (r : Run S A) : Type 0 where
  pub short : length r.log + length r.tape.rest ≤ length p.rest + more

pub bounded_wider : {S A : Type 0} (m more : ℕ) (p : Tape) (r : Run S A) → m ≤ more → Bounded m p r → Bounded more p r
bounded_wider m more p r l b = record { short = omega (arith, b.short) }

-- what asking leaves
record Fewer (p : Tape) (q : Asked) : Type 0 where
  got : (a b : ℕ) → q.answer ≡ Got a b → length q.tape.rest + 1 ≤ length p.rest
  left : length q.tape.rest ≤ length p.rest

for_fewer : (want : Rec → Bool) (p : Tape) → Fewer p (ask_for want p p.rest)
unfolding ask_for
for_fewer want p = go p.rest refl
  where
    None : Fewer p (asked Refused p)
    None = record { got = λ a b e. let z : ◌≡◌ {A = ℕ} 0 1 = cc in absurd (omega arith); left = omega arith }

    go : (l : List Rec) → p.rest ≡ l → Fewer p (ask_for want p l)
    go [] e = None
    go (r ∷ rs) e = by (want r)
      where
        by : (x : Bool) → Fewer p (cond x (asked (Got r.a r.b) (tape r.next rs)) (asked Refused p))
        by true = record { got = λ a b _. rw e (omega arith); left = rw e (omega arith) }
        by false = None

-- AS A LOGIC OF RUNS, in which a value leaves some of the entries to what comes after it
unfoldable pub left : {A : Type 0} → (A → Hand) → Verdict A → ℕ
left f (going a) = (f a).entries
left f refused = 0
left f (failed n) = 0

pub record Spends {S A : Type 0} (f : A → Hand) (h : Hand) (p : Tape) (r : Run S A) : Type 0 where
  pub spent : length r.log + length r.tape.rest + left f r.verdict ≤ length p.rest + h.entries

pub spends_bounded : {S A : Type 0} (f : A → Hand) (h : Hand) (p : Tape) (r : Run S A) → Spends f h p r → Bounded h.entries p r
spends_bounded f h p r b = record { short = omega (arith, b.spent) }

pub bounded_spends : {S A : Type 0} (more : ℕ) (p : Tape) (r : Run S A) → Bounded more p r → Spends nothing (hand None more) p r
unfolding left
bounded_spends {A = A} more p r b = record { spent = go r.verdict }
  where
    go : (v : Verdict A) → length r.log + length r.tape.rest + left nothing v ≤ length p.rest + more
    go (going a) = omega (arith, b.short)
    go refused = omega (arith, b.short)
    go (failed n) = omega (arith, b.short)

spends_for : {S A : Type 0} (f : A → Hand) (x y : Option ℕ) (n : ℕ) (want : Rec → Bool) (s : S) (p : Tape) (k : ℕ → ℕ → Tape → Run S A)
    → ((a b : ℕ) (q : Tape) → Spends f (hand y (n + 1)) q (k a b q)) → Spends f (hand x n) p (heard (ask_for want p p.rest) s k)
unfolding heard heard_as left
spends_for {A = A} f x y n want s p k g = go (ask_for want p p.rest) (for_fewer want p)
  where
    go : (q : Asked) → Fewer p q → Spends f (hand x n) p (heard_as q.answer s q.tape k)
    go q u = by q.answer refl
      where
        by : (z : Answer) → q.answer ≡ z → Spends f (hand x n) p (heard_as z s q.tape k)
        by (Got a b) e = record { spent = omega (arith, (g a b q.tape).spent, u.got a b e) }
        by Refused e = record { spent = omega (arith, u.left) }

pub spends_onward : {S A B : Type 0} (f : A → Hand) (g : B → Hand) (h : Hand) (p : Tape) (r : Run S A) (k : A → S → Tape → Run S B) → Spends f h p r
    → ((a : A) (s : S) (q : Tape) → Spends g (f a) q (k a s q)) → Spends g h p (onward r k)
unfolding onward onward_as left
spends_onward {A = A} f g h p r k b m = go r.verdict b.spent
  where
    go : (v : Verdict A) → length r.log + length r.tape.rest + left f v ≤ length p.rest + h.entries → Spends g h p (onward_as v r k)
    go (going a) l =
        let u = k a r.state r.tape in
        record { spent = omega (arith, (m a r.state r.tape).spent, length-append r.log u.log) }
    go refused l = record { spent = omega arith }
    go (failed n) l = record { spent = omega arith }

module _ {S A : Type 0} (f : A → Hand) where
  pub spends_going : (h : Hand) (a : A) (s : S) (p : Tape) → (f a).entries ≤ h.entries → Spends f h p (ends (going a) s p)
  unfolding left
  spends_going h a s p l = record { spent = omega arith }

  pub spends_failed : (h : Hand) (n : ℕ) (s : S) (p : Tape) → Spends f h p (ends (failed n) s p)
  unfolding left
  spends_failed h n s p = record { spent = omega arith }

  pub spends_one : (x : Option ℕ) (n : ℕ) (e : Entry) (p : Tape) (r : Run S A) → Spends f (hand x n) p r → Spends f (hand x (n + 1)) p (before (e ∷ []) r)
  spends_one x n e p r g = record { spent = omega (arith, g.spent) }

  pub spends_ask : (x y : Option ℕ) (n kind : ℕ) (s : S) (p : Tape) (k : ℕ → ℕ → Tape → Run S A) → ((a b : ℕ) (q : Tape) → Spends f (hand y (n + 1)) q (k a b q)) → Spends f (hand x n) p (heard (ask p kind) s k)
  unfolding ask
  spends_ask x y n kind s p k g = spends_for f x y n (λ r. eqb r.kind kind) s p k g

  pub spends_about : (x : Option ℕ) (n kind who : ℕ) (s : S) (p : Tape) (k : ℕ → ℕ → Tape → Run S A) → ((a b : ℕ) (q : Tape) → Spends f (hand x (n + 1)) q (k a b q)) → Spends f (hand x n) p (heard (ask_about p kind who) s k)
  unfolding ask_about
  spends_about x n kind who s p k g = spends_for f x x n (λ r. eqb r.kind kind && eqb r.b who) s p k g

-- THE PARTS of an answer: a part is one entry or none
part_one : (content : Content) (proposer kind a b : ℕ) → length (part_entries content proposer kind a b) ≤ 1
unfolding part_entries
part_one content proposer kind a b = go (eqb kind 16) (eqb kind 17)
  where
    go : (x y : Bool) → length (cond x (message (message_kind content) proposer b ∷ []) (cond y (fault (fault_kind content) a b ∷ []) [])) ≤ 1
    go true y = omega arith
    go false true = omega arith
    go false false = omega arith

module _ (content : Content) (proposer : ℕ) where
  parts_few : (o : Option ℕ) (i : ℕ) (l : List Rec) → length (parts_from content proposer o i l).log + length (parts_from content proposer o i l).tape.rest ≤ length l
  unfolding parts_from
  parts_few o i [] = omega arith
  parts_few o i (r ∷ rs) = go (is_part r.kind) refl (parts_few (last_output o r.kind r.b) r.next rs)
    where
      later : PartsTold
      later = parts_from content proposer (last_output o r.kind r.b) r.next rs

      go : (x : Bool) → is_part r.kind ≡ x → length later.log + length later.tape.rest ≤ length rs
          → length (parts_from content proposer o i (r ∷ rs)).log + length (parts_from content proposer o i (r ∷ rs)).tape.rest ≤ length (r ∷ rs)
      go true e h =
          rw (parts_on content proposer o i r rs e)
          (omega (arith, length-append (part_entries content proposer r.kind r.a r.b) later.log, part_one content proposer r.kind r.a r.b))
      go false e h = rw (parts_off content proposer o i r rs e) (omega arith)

  pub spends_parts : {S : Type 0} (n : ℕ) (s : S) (p : Tape) → Spends (λ o. hand o 0) (hand None n) p (read_parts content proposer s p)
  unfolding left
  spends_parts n s p = record { spent = omega (arith, parts_few None p.place p.rest) }

pub spends_spares : {S A : Type 0} (n c all : ℕ) (p : Tape) (r : Run S A) → c + n ≤ all → Spends nothing (hand None n) p r → Spends (λ a. hand None c) (hand None all) p r
unfolding left
spends_spares {A = A} n c all p r e g = record { spent = go r.verdict g.spent }
  where
    go : (v : Verdict A) → length r.log + length r.tape.rest + left nothing v ≤ length p.rest + n
        → length r.log + length r.tape.rest + left {A = A} (λ a. hand None c) v ≤ length p.rest + all
    go (going a) l = omega arith
    go refused l = omega arith
    go (failed m) l = omega arith

abbrev pub counting : (S : Type 0) → Logic anything S
counting S = record {
  Good = λ A f h s p r. Spends f h p r;
  Step = λ x s y t. Unit {0};
  steps = λ A f x y n s t p r e g. record { spent = g.spent };
  goes = λ A f h a s p e l. spends_going f h a s p l;
  fails = λ A f h n s p e. spends_failed f h n s p;
  writes = λ A f x n e s p r w g. spends_one f x n e p r g;
  asks = λ A f x n kind s p k e g. spends_ask f x x n kind s p k (λ a b q. g a b q tt);
  asks_about = λ A f x n kind who s p k e g. spends_about f x n kind who s p k g;
  asks_text = λ A f n s p k e g. spends_ask f None None n 12 s p k (λ a b q. record { spent = (g a b q tt).spent });
  parts = λ content proposer n s p e. spends_parts content proposer n s p;
  spares = λ A n left all s p r e g. spends_spares n left all p r e g;
  goes_on = λ A B f g h s p r k b m. spends_onward f g h p r k b m;
}

pub counting_stateless : Stateless anything counting
counting_stateless = record { allows = λ S x y s t. tt; moves = λ S R A f h s t u p r g. record { spent = g.spent } }

-- THE CHAIN OF A TABLE. Its indexes rise from above 0, so that it has fewer records than the table
walk_short : (n : ℕ) (t : List ℕ) (i j : ℕ) → (i ≡ 0) ⊎ (j < i) → j < length t / 4 → length (walk n t i) + suc j ≤ length t / 4
unfolding walk
walk_short zero t i j above h = omega arith
walk_short (suc n) t i j above h = go (on_record t i) refl above (walk_short n t (link t i) i (rises (ltb i (get_or t (i * 4) 0)) refl))
  where
    rises : (x : Bool) → ltb i (get_or t (i * 4) 0) ≡ x → (link t i ≡ 0) ⊎ (i < link t i)
    rises true e = let l = ltb-true _ _ e in inr (rw (link_up t i l) l)
    rises false e = inl (link_end t i (ltb-false _ _ e))

    go : (x : Bool) → on_record t i ≡ x → (i ≡ 0) ⊎ (j < i) → (i < length t / 4 → length (walk n t (link t i)) + suc i ≤ length t / 4)
        → length {A = Rec} (elim x [ true ↦ rec_at t i ∷ walk n t (link t i) | false ↦ [] ]) + suc j ≤ length t / 4
    go true e (inl z) f = let b = on_bounds t i e in absurd (omega arith)
    go true e (inr l) f = let b = on_bounds t i e in omega (arith, f b.1)
    go false e above f = omega arith

-- "4 to 4,096 words": a chain has at most 1,023 records
abbrev pub chain_limit : ℕ
chain_limit = 1023

pub table_short : (n : ℕ) (t : List ℕ) → table_ok n t ≡ true → length (tape_of t).rest ≤ chain_limit
unfolding table_ok shape_ok chain
table_short n t e =
    by_test (shape_ok t) _ _ e
    (λ s _. by_test (ltb (length t) 4) _ _ s (λ _ s. absurd (false≢true s)) (λ l s.
    let few : length t ≤ 4096 = leb-true _ _ (and_parts _ _ (and_parts _ _ (and_parts _ _ (and_parts _ _ s).0).0).0).0 in
    let Some : 4 ≤ length t = ltb-false _ _ l in
    omega (arith, walk_short (length t) t (get_or t 0 0) 0 (first (get_or t 0 0)) (omega arith))))
    (λ _ s. absurd (false≢true s))
  where
    first : (i : ℕ) → (i ≡ 0) ⊎ (0 < i)
    first zero = inl refl
    first (suc i) = inr (omega arith)

-- A RUN over a table that is not malformed, with what its definition allows besides
pub table_bounded : {S A : Type 0} (n more : ℕ) (t : List ℕ) (r : Run S A) → table_ok n t ≡ true → Bounded more (tape_of t) r → length r.log ≤ chain_limit + more
table_bounded n more t r e b = omega (arith, b.short, table_short n t e)
