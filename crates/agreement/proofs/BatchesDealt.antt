-- A batch is what its epoch's decisions, plaintexts and 13s make it, and stays so in the whole history. Assumes nothing.
use Rattle.std.proofs.Common.{ℕ, zero, suc, ◌+◌, ◌-◌, ◌≤◌, ◌<◌, arith, ◌≡◌, refl, sym, ap, ◌∙◌, ◌⊎◌, inl, inr, List, [], ◌∷◌, ◌++◌, Bool, true, false, cond, ◌&&◌, Option, None, Some, eqb, length, take, drop, take_at, drop_at, eqb-true}
use Rattle.std.proofs.lemmas.Bool.{false≢true, eqb-false}
use mathlib.Core.List.Memᴰ
use mathlib.Core.List.{Memᴰ}
use Rattle.steps.specs.Answers.{Rec}
use Rattle.steps.specs.Taken.{is_there, is_true, ones_from, thirteens_in}
use Rattle.subset.proofs.TakenTests.{Grown}
use Rattle.steps.specs.Batches.{Batch}
use Rattle.agreement.specs.History.{Event, plaintext, decision_taken, value_taken, decrypted, names_from, count_open, Handed, wanted_in, dealt, handed_in, handed_of, names_of, thirteens_of, unreadable_in, proposers_in, unreadable_of}
use Rattle.agreement.specs.Demand3.{DecidedTrue, Rising, Exact}
use Rattle.agreement.proofs.OneBatch.{entries_of}

-- the batch b of an epoch with the values v, the decisions d and the plaintexts x, and its 13s rs
pub record Handout (n f : ℕ) (v d x : ℕ → Option ℕ) (b : Batch) (rs : List Rec) : Type 0 where
  pub text : ℕ → ℕ
  pub named : names_of rs ≡ names_from (λ q. is_true (d q)) n 0
  pub decided : (q : ℕ) → q < n → is_there (d q) ≡ true
  pub known : (q : ℕ) → q < n → is_true (d q) ≡ true → is_there (v q) ≡ true
  pub texts : (q : ℕ) → q < n → is_true (d q) ≡ true → x q ≡ Some (text q)
  pub entries : b.entries ≡ entries_of text rs
  pub count : b.count ≡ length b.entries
  pub enough : n - f ≤ ones_from d n 0

-- by epoch and proposer
abbrev pub Tk : Type 0
Tk = ℕ → ℕ → Option ℕ

abbrev pub texts_of : (ℕ → Bool) → Tk → Tk → Tk
texts_of encrypted vs ts e q = cond (encrypted e) (ts e q) (vs e q)

abbrev pub Hand : ℕ → ℕ → (ℕ → Bool) → Tk → Tk → Tk → Batch → List Rec → Type 0
Hand n f encrypted vs ds ts b rs = Handout n f (vs b.epoch) (ds b.epoch) (texts_of encrypted vs ts b.epoch) b rs

-- the batches of a call, its 13s and its faults 5, batch by batch
pub data Dealt (H : Batch → List Rec → Type 0) : List Batch → List Rec → List ℕ → Type 0 where
  no_batch : Dealt H [] [] []
  one_batch : (b : Batch) (bs : List Batch) (rs rs' rs'' : List Rec) (fives fives' : List ℕ)
      → H b rs → rs'' ≡ rs ++ rs' → fives' ≡ unreadable_in rs ++ fives → Dealt H bs rs' fives → Dealt H (b ∷ bs) rs'' fives'

pub dealt_map : (H K : Batch → List Rec → Type 0) → ((b : Batch) (rs : List Rec) → H b rs → K b rs) → (bs : List Batch) (rs : List Rec) (fives : List ℕ)
    → Dealt H bs rs fives → Dealt K bs rs fives
dealt_map H K k bs rs fives no_batch = no_batch
dealt_map H K k bs rs fives (one_batch b bs' rs₁ rs₂ rs₃ fs fs' h e g d) = one_batch b bs' rs₁ rs₂ rs₃ fs fs' (k b rs₁ h) e g (dealt_map H K k bs' rs₂ fs d)

-- NAMES
pub from_next : (p q : ℕ) → p ≤ q → (q ≡ p) ⊎ (p + 1 ≤ q)
from_next p q h = go (eqb q p) refl
  where
    go : (t : Bool) → eqb q p ≡ t → (q ≡ p) ⊎ (p + 1 ≤ q)
    go true e = inl (eqb-true q p e)
    go false e = let ne : q ≡ p → ⊥ = eqb-false q p e in inr (omega arith)

module _ (is other : ℕ → Bool) where
  pub names_same : (m p : ℕ) → ((q : ℕ) → p ≤ q → q < p + m → is q ≡ other q) → names_from is m p ≡ names_from other m p
  unfolding names_from
  names_same zero p h = refl
  names_same (suc m) p h = rw (h p (omega arith) (omega arith), names_same m (p + 1) (λ q a b. h q (omega arith) (omega arith)))

ones_are : (d e : ℕ → Option ℕ) (m p : ℕ) → ((q : ℕ) → p ≤ q → q < p + m → d q ≡ e q) → ones_from d m p ≡ ones_from e m p
unfolding ones_from
ones_are d e zero p h = refl
ones_are d e (suc m) p h = rw (h p (omega arith) (omega arith), ones_are d e m (p + 1) (λ q a b. h q (omega arith) (omega arith)))

pub there : (o : Option ℕ) → is_there o ≡ true → (x : ℕ) × (o ≡ Some x)
unfolding is_there
there None e = absurd (false≢true e)
there (Some x) e = (x, refl)

-- WHAT IS SETTLED STAYS SO
module _ (n f : ℕ) (v d x v' d' x' : ℕ → Option ℕ) (gv : (q : ℕ) → Grown (v q) (v' q)) (gd : (q : ℕ) → Grown (d q) (d' q)) (gx : (q : ℕ) → Grown (x q) (x' q)) where
  pub handout_later : (b : Batch) (rs : List Rec) → Handout n f v d x b rs → Handout n f v' d' x' b rs
  unfolding is_there
  handout_later b rs h = record {
    text = h.text;
    named = h.named ∙ names_same (λ q. is_true (d q)) (λ q. is_true (d' q)) n 0 (λ q a l. ap is_true (same q (omega arith)));
    decided = λ q l. rw (← same q l) (h.decided q l);
    known = λ q l t. let y = there (v q) (h.known q l (rw (same q l) t)) in rw (gv q y.0 y.1);
    texts = λ q l t. gx q (h.text q) (h.texts q l (rw (same q l) t));
    entries = h.entries;
    count = h.count;
    enough = rw (← ones_are d d' n 0 (λ q a l. same q (omega arith))) h.enough;
  }
    where
      same : (q : ℕ) → q < n → d q ≡ d' q
      same q l = let y = there (d q) (h.decided q l) in y.1 ∙ sym (gd q y.0 y.1)

-- AS MANY 13s AS NAMES
names_long : (rs : List Rec) → length (names_of rs) ≡ length rs
unfolding names_of
names_long [] = refl
names_long (r ∷ rs) = ap suc (names_long rs)

names_ones : (d : ℕ → Option ℕ) (m p : ℕ) → length (names_from (λ q. is_true (d q)) m p) ≡ ones_from d m p
unfolding names_from ones_from
names_ones d zero p = refl
names_ones d (suc m) p = go (is_true (d p)) (names_ones d m (p + 1))
  where
    go : (t : Bool) → length (names_from (λ q. is_true (d q)) m (p + 1)) ≡ ones_from d m (p + 1)
        → length (cond t (p ∷ []) [] ++ names_from (λ q. is_true (d q)) m (p + 1)) ≡ cond t 1 0 + ones_from d m (p + 1)
    go true ih = omega arith
    go false ih = omega arith

open_ones : (d x : ℕ → Option ℕ) (m p : ℕ) → ((q : ℕ) → p ≤ q → q < p + m → is_true (d q) ≡ true → is_there (x q) ≡ true) → count_open d x m p ≡ ones_from d m p
unfolding count_open ones_from
open_ones d x zero p h = refl
open_ones d x (suc m) p h = rw (here (is_true (d p)) refl, open_ones d x m (p + 1) (λ q a b. h q (omega arith) (omega arith)))
  where
    here : (t : Bool) → is_true (d p) ≡ t → is_true (d p) && is_there (x p) ≡ is_true (d p)
    here true e = rw (e, h p (omega arith) (omega arith) e)
    here false e = rw e

pub wanted_are : (n f : ℕ) (v d x : ℕ → Option ℕ) (b : Batch) (rs : List Rec) → Handout n f v d x b rs → count_open d x n 0 ≡ length rs
unfolding is_there
wanted_are n f v d x b rs h =
    open_ones d x n 0 (λ q a l t. rw (h.texts q (omega arith) t))
    ∙ (sym (names_ones d n 0) ∙ (ap length (sym h.named) ∙ names_long rs))

-- THE BATCHES OF A HISTORY. Every one is as above
unfoldable pub AllHanded : (Batch → List Rec → Type 0) → List Handed → Type 0
AllHanded H [] = Unit {0}
AllHanded H (x ∷ xs) = H x.batch x.thirteens × AllHanded H xs

all_append : (H : Batch → List Rec → Type 0) (a b : List Handed) → AllHanded H a → AllHanded H b → AllHanded H (a ++ b)
unfolding AllHanded
all_append H [] b h k = k
all_append H (x ∷ a) b h k = (h.0, all_append H a b h.1 k)

pub all_at : (H : Batch → List Rec → Type 0) (l : List Handed) (x : Handed) → AllHanded H l → Memᴰ x l → H x.batch x.thirteens
unfolding AllHanded
all_at H [] x h m = absurd (Memᴰ.not-nil m)
all_at H (y ∷ l) x h m = go (all_at H l x h.1) (Memᴰ.cases_cons m)
  where
    go : (Memᴰ x l → H x.batch x.thirteens) → (x ≡ y) ⊎ Memᴰ x l → H x.batch x.thirteens
    go ih (inl e) = rw e h.0
    go ih (inr k) = ih k

-- every call of a history dealt as above
unfoldable pub AllDealt : (Batch → List Rec → Type 0) → List Event → Type 0
AllDealt H [] = Unit {0}
AllDealt H (x ∷ xs) = Dealt H x.batches (thirteens_in x.answers) x.fives × AllDealt H xs

module _ (n f : ℕ) (encrypted : ℕ → Bool) (h : List Event) where
  abbrev pub InAll : Batch → List Rec → Type 0
  InAll = Hand n f encrypted (value_taken h) (decision_taken h) (decrypted h)

  wanted_in_lem : (b : Batch) (rs : List Rec) → InAll b rs → length rs ≡ wanted_in n encrypted h b.epoch
  unfolding wanted_in plaintext
  wanted_in_lem b rs k = sym (wanted_are n f _ _ _ b rs k)

  deal_ok : (bs : List Batch) (rs : List Rec) (fives : List ℕ) → Dealt InAll bs rs fives
      → (fives ≡ unreadable_of (dealt n encrypted h bs rs)) × ((rs ≡ thirteens_of (dealt n encrypted h bs rs)) × AllHanded InAll (dealt n encrypted h bs rs))
  unfolding dealt unreadable_of thirteens_of AllHanded
  deal_ok bs rs fives no_batch = (refl, (refl, tt))
  deal_ok bs rs fives (one_batch b bs' rs₁ rs₂ rs₃ fs fs' k e g d) =
      let ih = deal_ok bs' rs₂ fs d in
      let l = wanted_in_lem b rs₁ k in
      let t : take (wanted_in n encrypted h b.epoch) (rs₁ ++ rs₂) ≡ rs₁ = take_at rs₁ rs₂ (wanted_in n encrypted h b.epoch) l in
      let u : drop (wanted_in n encrypted h b.epoch) (rs₁ ++ rs₂) ≡ rs₂ = drop_at rs₁ rs₂ (wanted_in n encrypted h b.epoch) l in
      rw (e, t, u) (g ∙ ap (λ (z : List ℕ). unreadable_in rs₁ ++ z) ih.0, (ap (λ (z : List Rec). rs₁ ++ z) ih.1.0, (k, ih.1.1)))

  pub all_handed : (xs : List Event) → AllDealt InAll xs → AllHanded InAll (handed_of n encrypted h xs)
  unfolding AllDealt handed_of AllHanded
  all_handed [] a = tt
  all_handed (x ∷ xs) a =
      all_append InAll (handed_in n encrypted h x) (handed_of n encrypted h xs) (deal_ok x.batches (thirteens_in x.answers) x.fives a.0).1.1 (all_handed xs a.1)

  -- a call's faults 5 and 13s are those of its batches
  abbrev DealtAll : Event → Type 0
  DealtAll x = (x.fives ≡ unreadable_of (handed_in n encrypted h x)) × (thirteens_in x.answers ≡ thirteens_of (handed_in n encrypted h x))

  pub all_dealt : (xs : List Event) → AllDealt InAll xs → (x : Event) → Memᴰ x xs → DealtAll x
  unfolding AllDealt
  all_dealt [] a x m = absurd (Memᴰ.not-nil m)
  all_dealt (y ∷ xs) a x m = go (all_dealt xs a.1 x) (Memᴰ.cases_cons m)
    where
      go : (Memᴰ x xs → DealtAll x) → (x ≡ y) ⊎ Memᴰ x xs → DealtAll x
      go ih (inl e) = let d = deal_ok y.batches (thirteens_in y.answers) y.fives a.0 in rw e (d.0, d.1.0)
      go ih (inr k) = ih k

-- ONE HOST: contributors and unreadable ones are exactly those decided true
rising_weak : (k j : ℕ) (xs : List ℕ) → k ≤ j → Rising j xs → Rising k xs
rising_weak k j [] l r = tt
rising_weak k j (x ∷ xs) l r = (omega (arith, r.0), r.1)

rising_names : (is : ℕ → Bool) (m p : ℕ) → Rising p (names_from is m p)
unfolding names_from
rising_names is zero p = tt
rising_names is (suc m) p = go (is p) (rising_names is m (p + 1))
  where
    go : (t : Bool) → Rising (p + 1) (names_from is m (p + 1)) → Rising p (cond t (p ∷ []) [] ++ names_from is m (p + 1))
    go true r = (omega arith, r)
    go false r = rising_weak p (p + 1) (names_from is m (p + 1)) (omega arith) r

rising_least : (k p : ℕ) (xs : List ℕ) → Rising k xs → Memᴰ p xs → k ≤ p
rising_least k p [] r m = absurd (Memᴰ.not-nil m)
rising_least k p (x ∷ xs) r m = go (Memᴰ.cases_cons m) (rising_least (x + 1) p xs r.1)
  where
    go : (p ≡ x) ⊎ Memᴰ p xs → (Memᴰ p xs → x + 1 ≤ p) → k ≤ p
    go (inl e) ih = omega (arith, r.0)
    go (inr y) ih = omega (arith, r.0, ih y)

module _ (is : ℕ → Bool) where
  names_has : (m p q : ℕ) → p ≤ q → q < p + m → is q ≡ true → Memᴰ q (names_from is m p)
  unfolding names_from
  names_has zero p q l h e = absurd (omega arith)
  names_has (suc m) p q l h e = go (from_next p q l) (names_has m (p + 1) q)
    where
      go : (q ≡ p) ⊎ (p + 1 ≤ q) → (p + 1 ≤ q → q < p + 1 + m → is q ≡ true → Memᴰ q (names_from is m (p + 1)))
          → Memᴰ q (cond (is p) (p ∷ []) [] ++ names_from is m (p + 1))
      go (inl z) ih = rw (← z, e) (Memᴰ.head refl)
      go (inr z) ih = Memᴰ.append_right (cond (is p) (p ∷ []) []) (ih z (omega arith) e)

  names_only : (m p q : ℕ) → Memᴰ q (names_from is m p) → (q < p + m) × (is q ≡ true)
  unfolding names_from
  names_only zero p q m = absurd (Memᴰ.not-nil m)
  names_only (suc m) p q k = go (is p) refl k (names_only m (p + 1) q)
    where
      go : (t : Bool) → is p ≡ t → Memᴰ q (cond t (p ∷ []) [] ++ names_from is m (p + 1))
          → (Memᴰ q (names_from is m (p + 1)) → (q < p + 1 + m) × (is q ≡ true)) → (q < p + suc m) × (is q ≡ true)
      go true e k ih = elim (Memᴰ.cases_cons k) [ inl z ↦ (omega arith, rw z e) | inr y ↦ (omega (arith, (ih y).0), (ih y).1) ]
      go false e k ih = (omega (arith, (ih k).0), (ih k).1)

module _ (text : ℕ → ℕ) (p : ℕ) where
  who_split : (rs : List Rec) → Memᴰ p (names_of rs) → Memᴰ p (proposers_in (entries_of text rs)) ⊎ Memᴰ p (unreadable_in rs)
  unfolding names_of entries_of proposers_in unreadable_in
  who_split [] m = absurd (Memᴰ.not-nil m)
  who_split (r ∷ rs) m = go (eqb r.a 0) (Memᴰ.cases_cons m) (who_split rs)
    where
      go : (t : Bool) → (p ≡ r.b) ⊎ Memᴰ p (names_of rs) → (Memᴰ p (names_of rs) → Memᴰ p (proposers_in (entries_of text rs)) ⊎ Memᴰ p (unreadable_in rs))
          → Memᴰ p (proposers_in (cond t [] (record { proposer = r.b; plaintext = text r.b } ∷ []) ++ entries_of text rs)) ⊎ Memᴰ p (cond t (r.b ∷ []) [] ++ unreadable_in rs)
      go true (inl e) ih = inr (Memᴰ.head e)
      go false (inl e) ih = inl (Memᴰ.head e)
      go true (inr k) ih = elim (ih k) [ inl y ↦ inl y | inr y ↦ inr (Memᴰ.tail y) ]
      go false (inr k) ih = elim (ih k) [ inl y ↦ inl (Memᴰ.tail y) | inr y ↦ inr y ]

  who_left : (rs : List Rec) → Memᴰ p (proposers_in (entries_of text rs)) → Memᴰ p (names_of rs)
  unfolding names_of entries_of proposers_in
  who_left [] m = absurd (Memᴰ.not-nil m)
  who_left (r ∷ rs) m = go (eqb r.a 0) m (who_left rs)
    where
      go : (t : Bool) → Memᴰ p (proposers_in (cond t [] (record { proposer = r.b; plaintext = text r.b } ∷ []) ++ entries_of text rs))
          → (Memᴰ p (proposers_in (entries_of text rs)) → Memᴰ p (names_of rs)) → Memᴰ p (r.b ∷ names_of rs)
      go true k ih = Memᴰ.tail (ih k)
      go false k ih = elim (Memᴰ.cases_cons k) [ inl e ↦ Memᴰ.head e | inr y ↦ Memᴰ.tail (ih y) ]

  who_right : (rs : List Rec) → Memᴰ p (unreadable_in rs) → Memᴰ p (names_of rs)
  unfolding names_of unreadable_in
  who_right [] m = absurd (Memᴰ.not-nil m)
  who_right (r ∷ rs) m = go (eqb r.a 0) m (who_right rs)
    where
      go : (t : Bool) → Memᴰ p (cond t (r.b ∷ []) [] ++ unreadable_in rs) → (Memᴰ p (unreadable_in rs) → Memᴰ p (names_of rs)) → Memᴰ p (r.b ∷ names_of rs)
      go true k ih = elim (Memᴰ.cases_cons k) [ inl e ↦ Memᴰ.head e | inr y ↦ Memᴰ.tail (ih y) ]
      go false k ih = Memᴰ.tail (ih k)

  who_apart : (k : ℕ) (rs : List Rec) → Rising k (names_of rs) → Memᴰ p (proposers_in (entries_of text rs)) → Memᴰ p (unreadable_in rs) → ⊥
  unfolding names_of entries_of proposers_in unreadable_in
  who_apart k [] r m u = Memᴰ.not-nil m
  who_apart k (x ∷ rs) r m u = go (eqb x.a 0) m u (who_apart (x.b + 1) rs r.1)
    where
      late : Memᴰ p (names_of rs) → p ≡ x.b → ⊥
      late y e = omega (arith, rising_least (x.b + 1) p (names_of rs) r.1 y)

      go : (t : Bool) → Memᴰ p (proposers_in (cond t [] (record { proposer = x.b; plaintext = text x.b } ∷ []) ++ entries_of text rs)) → Memᴰ p (cond t (x.b ∷ []) [] ++ unreadable_in rs)
          → (Memᴰ p (proposers_in (entries_of text rs)) → Memᴰ p (unreadable_in rs) → ⊥) → ⊥
      go true y z ih = elim (Memᴰ.cases_cons z) [ inl e ↦ late (who_left rs y) e | inr w ↦ ih y w ]
      go false y z ih = elim (Memᴰ.cases_cons y) [ inl e ↦ late (who_right rs z) e | inr w ↦ ih w z ]

who_count : (text : ℕ → ℕ) (rs : List Rec) → length (proposers_in (entries_of text rs)) + length (unreadable_in rs) ≡ length (names_of rs)
unfolding names_of entries_of proposers_in unreadable_in
who_count text [] = refl
who_count text (r ∷ rs) = go (eqb r.a 0) (who_count text rs)
  where
    go : (t : Bool) → length (proposers_in (entries_of text rs)) + length (unreadable_in rs) ≡ length (names_of rs)
        → length (proposers_in (cond t [] (record { proposer = r.b; plaintext = text r.b } ∷ []) ++ entries_of text rs)) + length (cond t (r.b ∷ []) [] ++ unreadable_in rs) ≡ suc (length (names_of rs))
    go true ih = omega arith
    go false ih = omega arith

-- a part of a rising list rises
module _ (text : ℕ → ℕ) where
  who_rise : (k : ℕ) (rs : List Rec) → Rising k (names_of rs) → Rising k (proposers_in (entries_of text rs)) × Rising k (unreadable_in rs)
  unfolding names_of entries_of proposers_in unreadable_in
  who_rise k [] r = (tt, tt)
  who_rise k (x ∷ rs) r = go (eqb x.a 0) (who_rise (x.b + 1) rs r.1)
    where
      go : (t : Bool) → Rising (x.b + 1) (proposers_in (entries_of text rs)) × Rising (x.b + 1) (unreadable_in rs)
          → Rising k (proposers_in (cond t [] (record { proposer = x.b; plaintext = text x.b } ∷ []) ++ entries_of text rs)) × Rising k (cond t (x.b ∷ []) [] ++ unreadable_in rs)
      go true ih = (rising_weak k (x.b + 1) (proposers_in (entries_of text rs)) (omega (arith, r.0)) ih.0, (r.0, ih.1))
      go false ih = ((r.0, ih.0), rising_weak k (x.b + 1) (unreadable_in rs) (omega (arith, r.0)) ih.1)

pub true_one : (o : Option ℕ) → is_true o ≡ true → o ≡ Some 1
unfolding is_true
true_one None e = absurd (false≢true e)
true_one (Some x) e = ap Some (eqb-true x 1 e)

pub is_true_lem : (o : Option ℕ) → o ≡ Some 1 → is_true o ≡ true
unfolding is_true
is_true_lem o e = rw e

module _ (n f : ℕ) (encrypted : ℕ → Bool) (h : List Event) (x : Handed) (k : InAll n f encrypted h x.batch x.thirteens) where
  abbrev ds : ℕ → Option ℕ
  ds = decision_taken h x.batch.epoch

  -- a proposer that a 13 names is decided true
  pub of_names : (p : ℕ) → Memᴰ p (names_of x.thirteens) → DecidedTrue n h x.batch.epoch p
  of_names p m = let r = names_only (λ q. is_true (ds q)) n 0 p (rw k.named at m) in (omega (arith, r.0), true_one (ds p) r.1)

  names_rise : Rising 0 (names_of x.thirteens)
  names_rise = rw k.named (rising_names (λ q. is_true (ds q)) n 0)

  pub exact : Exact n f h x
  exact = record {
    named = k.named;
    enough = k.enough;
    decided = λ p t.
        rw k.entries (who_split k.text p x.thirteens (rw k.named (names_has (λ q. is_true (ds q)) n 0 p (omega arith) (omega (arith, t.0)) (is_true_lem (ds p) t.1))));
    contributing = λ p m. of_names p (who_left k.text p x.thirteens (rw k.entries at m));
    not_reading = λ p m. of_names p (who_right k.text p x.thirteens m);
    apart = λ p m u. who_apart k.text p 0 x.thirteens names_rise (rw k.entries at m) u;
    contributors_rise = rw k.entries (who_rise k.text 0 x.thirteens names_rise).0;
    unreadable_rise = (who_rise k.text 0 x.thirteens names_rise).1;
    together = rw (k.entries, who_count k.text x.thirteens, k.named) (names_ones ds n 0);
    count = k.count;
  }
