-- What is taken from the first answer of a chain and its parts, and what reply 5's rule says of them. Assumes nothing.
use Rattle.std.proofs.Common.{ℕ, zero, suc, ◌*◌, ◌≤◌, ◌<◌, ◌≡◌, refl, sym, ap, ◌∙◌, List, [], ◌∷◌, Bool, true, false, cond, ◌&&◌, ◌||◌, Option, None, Some, arith, length, get_or, eqb, leb, ltb, eqb-true, ne_eqb, leb-true, ltb-true}
use Rattle.std.proofs.lemmas.Bool.{and_parts, false≢true, eqb-false, lt-leb}
use Rattle.std.proofs.Math.Bool.{and-false}
use Rattle.steps.specs.declared.reader.Content.{Content}
use Rattle.steps.specs.Answers.{Rec, rec_at, chain, tape_of}
use Rattle.steps.specs.Table.{within, handle, record_ok, context_after, word, link_ok, may_follow, chain_ok, shape_ok, table_ok}
use Rattle.steps.specs.Parts.{is_part, output_of, last_of, last_output, parts_from}
use Rattle.steps.specs.Taken.{or_else, last_output_in, first_taken, is_asked}
use Rattle.steps.proofs.ChainLaws.{on_record_lem, off_at_zero, chain_off}
use Rattle.steps.proofs.TableCheck.{follow_link, follow_rule, follow_facts, chain_next}
use Rattle.steps.proofs.Parts.{parts_on, parts_off}

-- FIRST OF TWO
pub or_else_none : {A : Type 0} (x : Option A) → or_else x None ≡ x
unfolding or_else
or_else_none None = refl
or_else_none (Some a) = refl

pub or_else_assoc : {A : Type 0} (x y z : Option A) → or_else (or_else x y) z ≡ or_else x (or_else y z)
unfolding or_else
or_else_assoc None y z = refl
or_else_assoc (Some a) y z = refl

-- REPLY 5'S RULE along a chain, where a part that comes first would belong to an answer of kind `context`
unfoldable pub GoodFrom : ℕ → ℕ → List Rec → Type 0
GoodFrom n context [] = Unit {0}
GoodFrom n context (r ∷ rs) = (record_ok n context r.kind r.a r.b ≡ true) × GoodFrom n (context_after context r.kind r.a) rs

pub record Good (n : ℕ) (rs : List Rec) : Type 0 where
  pub context : ℕ
  pub good : GoodFrom n context rs

-- a chain that is accepted ends here, or goes on by the rule for a next
follows : (m n : ℕ) (t : List ℕ) (own i context : ℕ) → chain_ok m n t own i context ≡ true → link_ok t own i ≡ true
unfolding chain_ok link_ok
follows zero n t own i context e = rw e
follows (suc m) n t own i context e = go (eqb i 0) (may_follow n t own i context) refl refl e
  where
    go : (x y : Bool) → eqb i 0 ≡ x → may_follow n t own i context ≡ y → cond x true (cond y (chain_ok m n t i (get_or t (i * 4) 0) (context_after context (word t i 1) (word t i 2))) false) ≡ true
        → link_ok t own i ≡ true
    go true y z f e = rw z
    go false true z f e = follow_link n t own i context f
    go false false z f e = absurd (false≢true e)

chain_good : (m n : ℕ) (t : List ℕ) (own i context : ℕ) → chain_ok m n t own i context ≡ true → GoodFrom n context (chain t i)
unfolding chain_ok GoodFrom rec_at
chain_good zero n t own i context e = rw (eqb-true i 0 e, chain_off t 0 (off_at_zero t)) tt
chain_good (suc m) n t own i context e = go (eqb i 0) (may_follow n t own i context) refl refl e (chain_good m n t i next after)
  where
    next : ℕ
    next = get_or t (i * 4) 0

    after : ℕ
    after = context_after context (word t i 1) (word t i 2)

    go : (x y : Bool) → eqb i 0 ≡ x → may_follow n t own i context ≡ y → cond x true (cond y (chain_ok m n t i next after) false) ≡ true
        → (chain_ok m n t i next after ≡ true → GoodFrom n after (chain t next)) → GoodFrom n context (chain t i)
    go true y z f e ih = rw (eqb-true i 0 z, chain_off t 0 (off_at_zero t)) tt
    go false true z f e ih =
        let p : i ≡ 0 → ⊥ = eqb-false i 0 z in
        let b = follow_facts n t own i context f p in
        rw (chain_next t i (follows m n t i next after e) (on_record_lem t i (omega arith) b.1)) (follow_rule n t own i context f, ih e)
    go false false z f e ih = absurd (false≢true e)

pub table_good : (n : ℕ) (t : List ℕ) → table_ok n t ≡ true → Good n (tape_of t).rest
unfolding table_ok
table_good n t e = go (shape_ok t) e
  where
    go : (x : Bool) → cond x (chain_ok (length t) n t 0 (get_or t 0 0) 0) false ≡ true → Good n (tape_of t).rest
    go true e = record { context = 0; good = chain_good (length t) n t 0 (get_or t 0 0) 0 e }
    go false e = absurd (false≢true e)

-- PARTS. What stands behind the parts that stand first
unfoldable pub past_parts : List Rec → List Rec
past_parts [] = []
past_parts (r ∷ rs) = cond (is_part r.kind) (past_parts rs) (r ∷ rs)

last_output_lem : (output : Option ℕ) (kind b : ℕ) → last_output output kind b ≡ or_else (cond (eqb kind 18) (Some b) None) output
unfolding last_output output_of last_of or_else
last_output_lem output kind b = go (eqb kind 18)
  where
    go : (x : Bool) → last_of output (cond x (Some b) None) ≡ or_else (cond x (Some b) None) output
    go true = refl
    go false = refl

module _ (content : Content) (proposer : ℕ) where
  pub parts_output : (output : Option ℕ) (i : ℕ) (rs : List Rec) → (parts_from content proposer output i rs).output ≡ or_else (last_output_in rs) output
  unfolding parts_from last_output_in or_else
  parts_output output i [] = refl
  parts_output output i (r ∷ rs) = go (is_part r.kind) refl (parts_output (last_output output r.kind r.b) r.next rs)
    where
      later : Option ℕ
      later = last_output output r.kind r.b

      go : (x : Bool) → is_part r.kind ≡ x → (parts_from content proposer later r.next rs).output ≡ or_else (last_output_in rs) later
          → (parts_from content proposer output i (r ∷ rs)).output ≡ or_else (last_output_in (r ∷ rs)) output
      go true e ih = rw (parts_on content proposer output i r rs e, e, ih, last_output_lem output r.kind r.b) (sym (or_else_assoc (last_output_in rs) _ output))
      go false e ih = rw (parts_off content proposer output i r rs e, e)

  pub parts_rest : (output : Option ℕ) (i : ℕ) (rs : List Rec) → (parts_from content proposer output i rs).tape.rest ≡ past_parts rs
  unfolding parts_from past_parts
  parts_rest output i [] = refl
  parts_rest output i (r ∷ rs) = go (is_part r.kind) refl (parts_rest (last_output output r.kind r.b) r.next rs)
    where
      go : (x : Bool) → is_part r.kind ≡ x → (parts_from content proposer (last_output output r.kind r.b) r.next rs).tape.rest ≡ past_parts rs
          → (parts_from content proposer output i (r ∷ rs)).tape.rest ≡ past_parts (r ∷ rs)
      go true e ih = rw (parts_on content proposer output i r rs e, e) ih
      go false e ih = rw (parts_off content proposer output i r rs e, e)

-- kinds that no part has
abbrev pub NoPart : (ℕ → Bool) → Type 0
NoPart is = (kind : ℕ) → is_part kind ≡ true → is kind ≡ false

pub low_no_part : (lo hi : ℕ) → hi < 16 → NoPart (within lo hi)
unfolding is_part
low_no_part lo hi h kind e = rw (lt-leb kind hi (omega (arith, leb-true 16 kind (and_parts (leb 16 kind) (leb kind 18) e).0))) (and-false (leb lo kind))

-- and so such a kind is no part's
pub no_part : (is : ℕ → Bool) → NoPart is → (kind : ℕ) → is kind ≡ true → is_part kind ≡ false
no_part is np kind e = go (is_part kind) refl
  where
    go : (x : Bool) → is_part kind ≡ x → x ≡ false
    go true z = absurd (false≢true (sym (np kind z) ∙ e))
    go false z = refl

-- kinds that a test tells apart
pub apart : (is : ℕ → Bool) (j k : ℕ) → is j ≡ false → is k ≡ true → eqb j k ≡ false
apart is j k f e = ne_eqb j k (λ z. false≢true (sym f ∙ ap is z ∙ e))

pub past_taken : (is : ℕ → Bool) → NoPart is → (q : ℕ) (rs : List Rec) → first_taken is q rs ≡ first_taken is q (past_parts rs)
unfolding first_taken past_parts or_else
past_taken is np q [] = refl
past_taken is np q (r ∷ rs) = go (is_part r.kind) refl (past_taken is np q rs)
  where
    go : (x : Bool) → is_part r.kind ≡ x → first_taken is q rs ≡ first_taken is q (past_parts rs) → first_taken is q (r ∷ rs) ≡ first_taken is q (past_parts (r ∷ rs))
    go true e ih = rw (e, np r.kind e) ih
    go false e ih = rw e

-- a part answers nothing that is asked for
pub past_asking : (kind : ℕ) → is_part kind ≡ false → (q : ℕ) (rs : List Rec) → is_asked kind q rs ≡ is_asked kind q (past_parts rs)
unfolding is_asked past_parts
past_asking kind np q [] = refl
past_asking kind np q (r ∷ rs) = go (is_part r.kind) refl (past_asking kind np q rs)
  where
    go : (x : Bool) → is_part r.kind ≡ x → is_asked kind q rs ≡ is_asked kind q (past_parts rs) → is_asked kind q (r ∷ rs) ≡ is_asked kind q (past_parts (r ∷ rs))
    go true e ih = rw (e, ne_eqb r.kind kind (λ z. false≢true (sym np ∙ ap is_part (sym z) ∙ e))) ih
    go false e ih = rw e

-- a part keeps the context
part_context : (context kind a : ℕ) → is_part kind ≡ true → context_after context kind a ≡ context
unfolding context_after is_part
part_context context kind a e = rw (low_no_part 3 7 (omega arith) kind e, e)

pub past_good : (n context : ℕ) (rs : List Rec) → GoodFrom n context rs → GoodFrom n context (past_parts rs)
unfolding GoodFrom past_parts
past_good n context [] g = tt
past_good n context (r ∷ rs) g = go (is_part r.kind) refl (past_good n context rs) g
  where
    go : (x : Bool) → is_part r.kind ≡ x → (GoodFrom n context rs → GoodFrom n context (past_parts rs)) → GoodFrom n context (r ∷ rs) → GoodFrom n context (past_parts (r ∷ rs))
    go true e ih g = rw e (ih (rw (part_context context r.kind r.a e) at g.1))
    go false e ih g = rw e g

-- a decision that is there is 0 or 1
unfoldable pub Bit : Option ℕ → Type 0
Bit None = Unit {0}
Bit (Some d) = d ≤ 1

pub bit_or : (x y : Option ℕ) → Bit x → Bit y → Bit (or_else x y)
unfolding or_else
bit_or None y a b = b
bit_or (Some x) y a b = a

output_rule : (n context a b : ℕ) → 4 < context → record_ok n context 18 a b ≡ true → b ≤ 1
unfolding record_ok
output_rule n context a b h e =
    let last : cond (leb context 4) (handle b) (leb b 1) ≡ true = (and_parts (ltb 0 context && eqb a 0) (cond (leb context 4) (handle b) (leb b 1)) e).1 in
    leb-true b 1 (rw (lt-leb context 4 h) at last)

-- the last output of an agreement's answer
pub output_bit : (n context : ℕ) (rs : List Rec) → 4 < context → GoodFrom n context rs → Bit (last_output_in rs)
unfolding last_output_in GoodFrom Bit
output_bit n context [] h g = tt
output_bit n context (r ∷ rs) h g = go (is_part r.kind) refl (output_bit n context rs h)
  where
    here : (x : Bool) → eqb r.kind 18 ≡ x → Bit (cond x (Some r.b) None)
    here true e = output_rule n context r.a r.b h (rw (eqb-true r.kind 18 e) at g.0)
    here false e = tt

    go : (x : Bool) → is_part r.kind ≡ x → (GoodFrom n context rs → Bit (last_output_in rs)) → Bit (cond x (or_else (last_output_in rs) (cond (eqb r.kind 18) (Some r.b) None)) None)
    go true e ih = bit_or (last_output_in rs) _ (ih (rw (part_context context r.kind r.a e) at g.1)) (here (eqb r.kind 18) refl)
    go false e ih = tt

-- AN ANSWER OF AN INSTANCE, of the kinds 3 to 7
pub record Instance (k : ℕ) : Type 0 where
  pub rule : (n context a b : ℕ) → record_ok n context k a b ≡ (leb a 1 && ltb b n)
  pub opens : (context : ℕ) → context_after context k 1 ≡ k

pub kind3 : Instance 3
unfolding record_ok context_after
kind3 = record { rule = λ n context a b. refl; opens = λ context. refl }

pub kind4 : Instance 4
unfolding record_ok context_after
kind4 = record { rule = λ n context a b. refl; opens = λ context. refl }

pub kind5 : Instance 5
unfolding record_ok context_after
kind5 = record { rule = λ n context a b. refl; opens = λ context. refl }

pub kind6 : Instance 6
unfolding record_ok context_after
kind6 = record { rule = λ n context a b. refl; opens = λ context. refl }

pub kind7 : Instance 7
unfolding record_ok context_after
kind7 = record { rule = λ n context a b. refl; opens = λ context. refl }

-- of the chain ws an answer of kind k about p was read, with its parts; its last output is o, and r is left
pub record Heard (n k p : ℕ) (ws : List Rec) (o : Option ℕ) (r : List Rec) : Type 0 where
  pub first : (is : ℕ → Bool) → NoPart is → (q : ℕ) → first_taken is q ws ≡ or_else (cond (is k && eqb p q) o None) (first_taken is q r)
  pub asking : (kind : ℕ) → is_part kind ≡ false → (q : ℕ) → is_asked kind q ws ≡ ((eqb k kind && eqb p q) || is_asked kind q r)
  pub named : p < n
  pub bit : 4 < k → Bit o
  pub good : Good n r

pub heard_answer : (n k p : ℕ) (r : Rec) (rs : List Rec) → Instance k → Good n (r ∷ rs) → r.kind ≡ k → r.b ≡ p → (r.a ≡ 0 → ⊥)
    → Heard n k p (r ∷ rs) (last_output_in rs) (past_parts rs)
unfolding GoodFrom first_taken is_asked
heard_answer n k p r rs i g ek eb na =
    let ok : record_ok n g.context k r.a p ≡ true = rw (ek, eb) at g.good.0 in
    let two = and_parts (leb r.a 1) (ltb p n) (rw (i.rule n g.context r.a p) at ok) in
    let one : r.a ≡ 1 = omega (arith, leb-true r.a 1 two.0) in
    let rest : GoodFrom n k rs = rw (ek, one, i.opens g.context) at g.good.1 in
    record {
      first = λ is np q. rw (ek, eb, past_taken is np q rs);
      asking = λ kind np q. rw (ek, eb, past_asking kind np q rs);
      named = ltb-true p n two.1;
      bit = λ h. output_bit n k rs h rest;
      good = record { context = k; good = past_good n k rs rest };
    }
