-- What is read of an answer table is in range, a run keeps what its parts keep, and words below their limits stay so. Assumes nothing.
use Rattle.std.proofs.Common.{ℕ, zero, suc, ◌*◌, ◌≤◌, ◌<◌, ◌≡◌, refl, sym, ◌∙◌, List, [], ◌∷◌, Bool, true, false, cond, ◌&&◌, ◌||◌, Option, None, Some, arith, length, get_or, set, replicate, length-set, get_or-set_same, get_or-set_other, eqb, leb, ltb, eqb-true, ne_eqb, leb-true, ltb-true, ltb-false}
use Rattle.std.proofs.Math.Seq.{set_out}
use Rattle.std.proofs.lemmas.List.{length-replicate}
use Rattle.std.proofs.lemmas.Bool.{and_parts, false≢true, eqb-false}
use Rattle.steps.specs.Answers.{Answer}
use Rattle.steps.specs.Answers.{Got, Refused}
use Rattle.steps.specs.declared.reader.Content.{Content}
use Rattle.steps.specs.Table.{within, handle, record_ok, word, may_follow, chain_ok, shape_ok, table_ok}
use Rattle.steps.specs.Answers.{Rec, Tape, tape, link, rec_at, chain, tape_of, Asked, asked, ask_for, ask, ask_about}
use Rattle.steps.specs.Steps.{Entry}
use Rattle.steps.specs.Runs.{Verdict, going, refused, failed, Run, ends, onward_as, onward, heard_as, heard, inside}
use Rattle.steps.specs.Parts.{is_part, output_of, last_of, last_output, parts_from, read_parts}
use Rattle.steps.proofs.ChainLaws.{on_record_lem, off_at_zero, link_up, link_end, chain_on, chain_off}
use Rattle.steps.proofs.Parts.{parts_on, parts_off}
use Rattle.steps.proofs.TableCheck.{follow_rule, follow_facts}
use Rattle.steps.proofs.Logic.{Terms, Logic}

-- A TEST that came out
pub by_test : {P : Type 0} (x u v : Bool) → cond x u v ≡ true → (x ≡ true → u ≡ true → P) → (x ≡ false → v ≡ true → P) → P
by_test true u v e f g = f refl e
by_test false u v e f g = g refl e

-- THE ANSWERS. In every record but a message, b is below 2^32
abbrev pub Small : Rec → Type 0
Small r = (r.kind ≡ 16 → ⊥) → r.b < 0x1_0000_0000

unfoldable pub AllSmall : List Rec → Type 0
AllSmall [] = Unit {0}
AllSmall (r ∷ rs) = Small r × AllSmall rs

handle_below : (b : ℕ) → handle b ≡ true → b < 0x1_0000_0000
handle_below b e = let h : b ≤ 0xffff_ffff = leb-true _ _ (and_parts (leb 1 b) _ e).1 in omega arith

module _ (n context kind a b : ℕ) (few : n ≤ 16) where
  record_small : record_ok n context kind a b ≡ true → (kind ≡ 16 → ⊥) → b < 0x1_0000_0000
  unfolding record_ok
  record_small e not =
      by_test (eqb kind 1) _ _ e (λ _ u. omega (arith, eqb-true b 0 (and_parts (leb a 1) _ u).1)) (λ _ e.
      by_test (eqb kind 2 || eqb kind 12) _ _ e
      (λ _ u. by_test (eqb a 0) _ _ u (λ _ v. omega (arith, eqb-true b 0 v)) (λ _ v. handle_below b (and_parts (eqb a 1) _ v).1))
      (λ _ e.
      by_test (within 3 10 kind || eqb kind 13) _ _ e (λ _ u. omega (arith, ltb-true b n (and_parts (leb a 1) _ u).1)) (λ _ e.
      by_test (eqb kind 11) _ _ e (λ _ u. handle_below b (and_parts (eqb a 1) _ u).1) (λ _ e.
      by_test (eqb kind 16) _ _ e (λ s u. absurd (not (eqb-true kind 16 s))) (λ _ e.
      by_test (eqb kind 17) _ _ e (λ _ u. omega (arith, leb-true b 0xffff_ffff (and_parts (ltb 0 context && ltb a n) _ u).1)) (λ _ e.
      by_test (eqb kind 18) _ _ e
      (λ _ u. by_test (leb context 4) _ _ (and_parts (ltb 0 context && eqb a 0) _ u).1 (λ _ v. handle_below b v) (λ _ v. omega (arith, leb-true b 1 v)))
      (λ _ e. absurd (false≢true e))))))))

-- along the chain of a table that is not malformed
linked_small : (t : List ℕ) (i : ℕ) → AllSmall (chain t (get_or t (i * 4) 0)) → AllSmall (chain t (link t i))
unfolding AllSmall
linked_small t i h = go (ltb i (get_or t (i * 4) 0)) refl
  where
    go : (x : Bool) → ltb i (get_or t (i * 4) 0) ≡ x → AllSmall (chain t (link t i))
    go true e = rw (link_up t i (ltb-true _ _ e)) h
    go false e = rw (link_end t i (ltb-false _ _ e), chain_off t 0 (off_at_zero t)) tt

chain_small : (fuel n : ℕ) (t : List ℕ) (own i context : ℕ) → n ≤ 16 → chain_ok fuel n t own i context ≡ true → AllSmall (chain t i)
unfolding chain_ok AllSmall rec_at
chain_small zero n t own i context few e = rw (eqb-true i 0 e, chain_off t 0 (off_at_zero t)) tt
chain_small (suc fuel) n t own i context few e =
    by_test (eqb i 0) _ _ e (λ z _. rw (eqb-true i 0 z, chain_off t 0 (off_at_zero t)) tt) (λ z e.
    by_test (may_follow n t own i context) _ _ e
    (λ m e. here m (eqb-false i 0 z) (linked_small t i (chain_small fuel n t i (get_or t (i * 4) 0) _ few e)))
    (λ _ e. absurd (false≢true e)))
  where
    here : may_follow n t own i context ≡ true → (i ≡ 0 → ⊥) → AllSmall (chain t (link t i)) → AllSmall (chain t i)
    here m d h =
        let f = follow_facts n t own i context m d in
        rw (chain_on t i (on_record_lem t i (omega arith) f.1)) (fits m, h)
      where
        fits : may_follow n t own i context ≡ true → Small (rec_at t i)
        fits m = record_small n context (word t i 1) (word t i 2) (word t i 3) few (follow_rule n t own i context m)

pub table_small : (n : ℕ) (t : List ℕ) → n ≤ 16 → table_ok n t ≡ true → AllSmall (tape_of t).rest
unfolding table_ok
table_small n t few e = by_test (shape_ok t) _ _ e (λ _ c. chain_small (length t) n t 0 _ 0 few c) (λ _ e. absurd (false≢true e))

-- A RUN KEEPS P: its state does, whatever the verdict; the answers left are small; and a value with which it goes on has Q
unfoldable pub Says : {A : Type 0} → (A → Type 0) → Verdict A → Type 0
Says Q (going a) = Q a
Says Q refused = Unit {0}
Says Q (failed n) = Unit {0}

pub record Kept {S A : Type 0} (P : S → Type 0) (Q : A → Type 0) (r : Run S A) : Type 0 where
  pub state : P r.state
  pub tape : AllSmall r.tape.rest
  pub value : Says Q r.verdict

-- a value of which nothing is said
abbrev pub Any : {A : Type 0} → A → Type 0
Any a = Unit {0}

pub says_any : {A : Type 0} (v : Verdict A) → Says Any v
unfolding Says
says_any (going a) = tt
says_any refused = tt
says_any (failed n) = tt

module _ {S A : Type 0} {P : S → Type 0} {Q : A → Type 0} where
  pub kept_going : {a : A} {s : S} {p : Tape} → P s → AllSmall p.rest → Q a → Kept P Q (ends (going a) s p)
  unfolding Says
  kept_going h o v = record { state = h; tape = o; value = v }

  pub kept_refused : {s : S} {p : Tape} → P s → AllSmall p.rest → Kept P Q (ends refused s p)
  unfolding Says
  kept_refused h o = record { state = h; tape = o; value = tt }

  pub kept_failed : {n : ℕ} {s : S} {p : Tape} → P s → AllSmall p.rest → Kept P Q (ends (failed n) s p)
  unfolding Says
  kept_failed h o = record { state = h; tape = o; value = tt }

  -- whatever its entries
  pub kept_before : {l : List Entry} {r : Run S A} → Kept P Q r → Kept P Q (record { state = r.state; verdict = r.verdict; tape = r.tape; log = l })
  kept_before k = record { state = k.state; tape = k.tape; value = k.value }

  -- after an answer, whose b is small
  heard_kept : (q : Asked) (s : S) (k : ℕ → ℕ → Tape → Run S A) → P s → AllSmall q.tape.rest
      → ((a b : ℕ) → q.answer ≡ Got a b → Kept P Q (k a b q.tape)) → Kept P Q (heard q s k)
  unfolding heard heard_as
  heard_kept q s k h o f = go q.answer refl
    where
      go : (x : Answer) → q.answer ≡ x → Kept P Q (heard_as x s q.tape k)
      go (Got a b) e = f a b e
      go Refused e = kept_refused h o

-- what asking for anything but a message leaves
record Heard (q : Asked) : Type 0 where
  tape : AllSmall q.tape.rest
  small : (a b : ℕ) → q.answer ≡ Got a b → b < 0x1_0000_0000

for_heard : (want : Rec → Bool) → ((r : Rec) → want r ≡ true → r.kind ≡ 16 → ⊥) → (p : Tape) (l : List Rec) → AllSmall p.rest → AllSmall l → Heard (ask_for want p l)
unfolding ask_for AllSmall
for_heard want not p [] o h = record { tape = o; small = λ a b e. let z : ◌≡◌ {A = ℕ} 0 1 = cc in absurd (omega arith) }
for_heard want not p (r ∷ rs) o h = go (want r) refl
  where
    go : (x : Bool) → want r ≡ x → Heard (cond x (asked (Got r.a r.b) (tape r.next rs)) (asked Refused p))
    go true e = record { tape = h.1; small = λ a b g. let z : r.b ≡ b = cc in rw z at (h.0 (not r e)) }
    go false e = record { tape = o; small = λ a b e. let z : ◌≡◌ {A = ℕ} 0 1 = cc in absurd (omega arith) }

module _ {S A : Type 0} {P : S → Type 0} {Q : A → Type 0} where
  pub kept_ask : (p : Tape) (kind : ℕ) (s : S) (k : ℕ → ℕ → Tape → Run S A) → eqb kind 16 ≡ false → P s → AllSmall p.rest
      → ((a b : ℕ) (q : Tape) → b < 0x1_0000_0000 → AllSmall q.rest → Kept P Q (k a b q)) → Kept P Q (heard (ask p kind) s k)
  unfolding ask
  kept_ask p kind s k n h o f =
      let u = for_heard (λ r. eqb r.kind kind) (λ r e z. eqb-false kind 16 n (sym (eqb-true _ _ e) ∙ z)) p p.rest o o in
      heard_kept (ask p kind) s k h u.tape (λ a b e. f a b _ (u.small a b e) u.tape)

  pub kept_about : (p : Tape) (kind who : ℕ) (s : S) (k : ℕ → ℕ → Tape → Run S A) → eqb kind 16 ≡ false → P s → AllSmall p.rest
      → ((a b : ℕ) (q : Tape) → b < 0x1_0000_0000 → AllSmall q.rest → Kept P Q (k a b q)) → Kept P Q (heard (ask_about p kind who) s k)
  unfolding ask_about
  kept_about p kind who s k n h o f =
      let u = for_heard (λ r. eqb r.kind kind && eqb r.b who) (λ r e z. eqb-false kind 16 n (sym (eqb-true _ _ (and_parts (eqb r.kind kind) _ e).0) ∙ z)) p p.rest o o in
      heard_kept (ask_about p kind who) s k h u.tape (λ a b e. f a b _ (u.small a b e) u.tape)

-- Rust's `?`: a refusal or failure stays
module _ {S A B : Type 0} {P : S → Type 0} {Q : A → Type 0} {W : B → Type 0} where
  pub kept_onward : (r : Run S A) (k : A → S → Tape → Run S B) → Kept P Q r
      → ((a : A) (s : S) (q : Tape) → P s → AllSmall q.rest → Q a → Kept P W (k a s q)) → Kept P W (onward r k)
  unfolding onward onward_as Says
  kept_onward r k h f = go r.verdict h.value
    where
      go : (v : Verdict A) → Says Q v → Kept P W (onward_as v r k)
      go (going a) u = kept_before (f a r.state r.tape h.state h.tape u)
      go refused u = record { state = h.state; tape = h.tape; value = tt }
      go (failed n) u = record { state = h.state; tape = h.tape; value = tt }

-- a run of a small state, as one of the state that it is a part of
pub kept_inside : {S T A : Type 0} {P : S → Type 0} {R : T → Type 0} {Q : A → Type 0} (put : T → S) (r : Run T A)
    → ((t : T) → R t → P (put t)) → Kept R Q r → Kept P Q (inside put r)
kept_inside put r f k = record { state = f _ k.state; tape = k.tape; value = k.value }

-- a value that is handed up, if there is one, is below 2^32
unfoldable pub SmallOption : Option ℕ → Type 0
SmallOption None = Unit {0}
SmallOption (Some x) = x < 0x1_0000_0000

pub kept_any : {S A : Type 0} {P : S → Type 0} {Q : A → Type 0} {r : Run S A} → Kept P Q r → Kept P Any r
kept_any {r = r} k = record { state = k.state; tape = k.tape; value = says_any r.verdict }

-- kinds below that of a message
pub within_below : (lo hi m k : ℕ) → hi < m → within lo hi k ≡ true → eqb k m ≡ false
within_below lo hi m k l e = ne_eqb k m (λ z. omega (arith, leb-true k hi (and_parts (leb lo k) (leb k hi) e).1))

-- THE PARTS of an answer: an output is below 2^32
last_small : (o : Option ℕ) (r : Rec) → Small r → SmallOption o → SmallOption (last_output o r.kind r.b)
unfolding last_output output_of last_of SmallOption
last_small o r h l = go (eqb r.kind 18) refl
  where
    go : (x : Bool) → eqb r.kind 18 ≡ x → SmallOption (last_of o (cond x (Some r.b) None))
    go true e = h (λ z. omega (arith, eqb-true r.kind 18 e))
    go false e = l

module _ (content : Content) (proposer : ℕ) where
  parts_small : (o : Option ℕ) (i : ℕ) (l : List Rec) → AllSmall l → SmallOption o
      → AllSmall (parts_from content proposer o i l).tape.rest × SmallOption (parts_from content proposer o i l).output
  unfolding parts_from AllSmall
  parts_small o i [] h u = (tt, u)
  parts_small o i (r ∷ rs) h u = go (is_part r.kind) refl (parts_small (last_output o r.kind r.b) r.next rs h.1 (last_small o r h.0 u))
    where
      go : (x : Bool) → is_part r.kind ≡ x
          → AllSmall (parts_from content proposer (last_output o r.kind r.b) r.next rs).tape.rest × SmallOption (parts_from content proposer (last_output o r.kind r.b) r.next rs).output
          → AllSmall (parts_from content proposer o i (r ∷ rs)).tape.rest × SmallOption (parts_from content proposer o i (r ∷ rs)).output
      go true e k = rw (parts_on content proposer o i r rs e) k
      go false e k = rw (parts_off content proposer o i r rs e) (h, u)

  pub kept_parts : {S : Type 0} {P : S → Type 0} (s : S) (p : Tape) → P s → AllSmall p.rest → Kept P SmallOption (read_parts content proposer s p)
  unfolding Says SmallOption
  kept_parts s p h o = let k = parts_small None p.place p.rest o tt in record { state = h; tape = k.0; value = k.1 }

-- AS A LOGIC OF RUNS among n nodes: whatever is asked for but messages
abbrev pub small : ℕ → Terms
small n = record { Kind = λ k. eqb k 16 ≡ false; Text = Unit {0}; Parts = Unit {0}; Writes = λ e. Unit {0}; Number = λ n. Unit {0}; Handle = λ b. b < 0x1_0000_0000; Index = λ i. i < n }

abbrev pub keeping : {S : Type 0} (n : ℕ) → (S → Type 0) → Logic (small n) S
unfolding SmallOption
keeping n P = record {
  Good = λ A f h s p r. P s → AllSmall p.rest → SmallOption h.handle → Kept P (λ a. SmallOption (f a).handle) r;
  Step = λ x s y t. P s → SmallOption x → P t × SmallOption y;
  steps = λ A f x y n s t p r e g h o u. let v = e h u in g v.0 o v.1;
  goes = λ A f h a s p e l k o u. kept_going k o (rw e u);
  fails = λ A f h n s p e k o u. kept_failed k o;
  writes = λ A f x n e s p r w g k o u. kept_before (g k o u);
  asks = λ A f x n kind s p k e g h o u. kept_ask p kind s k e h o (λ a b q l o. g a b q l h o u);
  asks_about = λ A f x n kind who s p k e g h o u. kept_about p kind who s k e h o (λ a b q l o. g a b q h o u);
  asks_text = λ A f n s p k e g h o u. kept_ask p 12 s k refl h o (λ a b q l o. g a b q l h o l);
  parts = λ content proposer n s p e h o u. kept_parts content proposer s p h o;
  spares = λ A n left all s p r e g. g;
  goes_on = λ A B f g h s p r k l m i o u. kept_onward r k (l i o u) (λ a t q i o v. m a t q i o v);
}

-- WORDS BELOW THEIR LIMITS: as many as said, word i below the limit of place i
pub record Below (limit : ℕ → ℕ) (size : ℕ) (w : List ℕ) : Type 0 where
  pub long : length w ≡ size
  pub below : (i : ℕ) → get_or w i 0 < limit i

pub zeros_at : (m i : ℕ) → get_or (replicate {A = ℕ} m 0) i 0 ≡ 0
zeros_at zero i = refl
zeros_at (suc m) zero = refl
zeros_at (suc m) (suc i) = zeros_at m i

module _ (limit : ℕ → ℕ) (size : ℕ) where
  pub below_set : (w : List ℕ) (i v : ℕ) → Below limit size w → v < limit i → Below limit size (set w i v)
  below_set w i v h l = record { long = length-set w i v ∙ h.long; below = λ j. go j (eqb j i) refl (ltb i (length w)) refl }
    where
      go : (j : ℕ) (x : Bool) → eqb j i ≡ x → (y : Bool) → ltb i (length w) ≡ y → get_or (set w i v) j 0 < limit j
      go j false e y f = rw (get_or-set_other w i j v 0 (eqb-false _ _ e)) (h.below j)
      go j true e true f = rw (eqb-true j i e, get_or-set_same w i v 0 (ltb-true _ _ f)) l
      go j true e false f = rw (set_out w i v (ltb-false _ _ f)) (h.below j)

  pub below_zeros : ((i : ℕ) → 0 < limit i) → Below limit size (replicate size 0)
  below_zeros h = record { long = length-replicate size 0; below = λ j. rw (zeros_at size j) (h j) }
