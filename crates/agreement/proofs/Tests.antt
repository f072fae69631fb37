-- Computed tests for what demand 3's claim says of closed runs: where a test is true, the premise or conclusion that it stands for holds. The
-- worked pairs (FirstPairClaim.antt, SecondPairClaim.antt) compute them. Assumes nothing.
use Rattle.std.proofs.Common.{ℕ, zero, suc, ◌+◌, ◌-◌, ◌<◌, ◌≡◌, refl, sym, ◌∙◌, ◌⊎◌, inl, inr, List, [], ◌∷◌, Bool, true, false, cond, ◌&&◌, Option, None, Some, arith, eqb, leb, ltb, length, eqb-true, eq-eqb, leb-true, ltb-true}
use Rattle.std.proofs.lemmas.Bool.{false≢true, eqb-false}
use mathlib.Core.List.Memᴰ
use mathlib.Core.List.{Memᴰ}
use Rattle.steps.specs.Answers.{Rec}
use Rattle.steps.specs.Taken.{or_else, is_true, last_output_in, first_taken, thirteens_in}
use Rattle.steps.specs.Batches.{BatchEntry, Batch}
use Rattle.agreement.specs.History.{Turn, none_fails, Event, taken, decision_taken, decided_true_in, ones_in, Handed, handed, handed_in, names_of, thirteens_of, unreadable, unreadable_of, contributors, Reading}
use Rattle.agreement.specs.Demand3.{TookAlike, ReadAlike, DecidedTrue, Rising, Exact, One, Two}
use Rattle.agreement.proofs.FirstPairRuns.{replies_in}
use Rattle.agreement.proofs.BatchesDealt.{true_one, is_true_lem}

-- two tests, both true
unfoldable pub both : Bool → Bool → Bool
both s t = s && t

left : (s t : Bool) → both s t ≡ true → s ≡ true
unfolding both
left true t e = refl
left false t e = e

right : (s t : Bool) → both s t ≡ true → t ≡ true
unfolding both
right true t e = e
right false t e = cc

-- a test of every member of a list
unfoldable pub every : {A : Type 0} → (A → Bool) → List A → Bool
every test [] = true
every test (x ∷ xs) = both (test x) (every test xs)

every_at : {A : Type 0} (test : A → Bool) (xs : List A) → every test xs ≡ true → (x : A) → Memᴰ x xs → test x ≡ true
unfolding every
every_at test [] h x m = absurd (Memᴰ.not-nil m)
every_at test (y ∷ ys) h x m = go (every_at test ys (right _ _ h) x) (Memᴰ.cases_cons m)
  where
    go : (Memᴰ x ys → test x ≡ true) → (x ≡ y) ⊎ Memᴰ x ys → test x ≡ true
    go later (inl e) = rw e (left _ _ h)
    go later (inr m) = later m

-- NO CALL FAILS where no reply is 20 or more
pub none_fails_lem : (ts : List Turn) → every (λ reply. ltb reply 20) (replies_in ts) ≡ true → none_fails ts ≡ true
unfolding every replies_in none_fails
none_fails_lem [] h = refl
none_fails_lem (t ∷ ts) h = rw (left _ _ h, none_fails_lem ts (right _ _ h))

-- WHAT WAS TAKEN. An answer has no output, or this one
unfoldable pub is_or : Option ℕ → ℕ → Bool
is_or None y = true
is_or (Some x) y = eqb x y

-- the answers of the kinds asked have no output, or the one that g says for their proposer
unfoldable pub says_in : (ℕ → Bool) → (ℕ → ℕ) → List Rec → Bool
says_in is g [] = true
says_in is g (r ∷ rs) = both (cond (is r.kind) (is_or (last_output_in rs) (g r.b)) true) (says_in is g rs)

-- and so in a history, for their epoch and proposer
unfoldable pub says : (ℕ → Bool) → (ℕ → ℕ → ℕ) → List Event → Bool
says is g [] = true
says is g (x ∷ xs) = both (says_in is (g x.epoch) x.answers) (says is g xs)

first_says : (is : ℕ → Bool) (g : ℕ → ℕ) (p : ℕ) (rs : List Rec) → says_in is g rs ≡ true → (x : ℕ) → first_taken is p rs ≡ Some x → x ≡ g p
unfolding is_or says_in or_else first_taken
first_says is g p [] h x k = let z : ◌≡◌ {A = ℕ} 0 1 = cc in absurd (omega arith)
first_says is g p (r ∷ rs) h x k =
    go (is r.kind) (eqb r.b p) (last_output_in rs) refl (left _ _ h) (first_says is g p rs (right _ _ h) x) k
  where
    go : (s t : Bool) (o : Option ℕ) → eqb r.b p ≡ t → cond s (is_or o (g r.b)) true ≡ true → (first_taken is p rs ≡ Some x → x ≡ g p)
        → or_else (cond (s && t) o None) (first_taken is p rs) ≡ Some x → x ≡ g p
    go true true None e a ih k = ih k
    go true true (Some y) e a ih k = cc (eqb-true y (g r.b) a, eqb-true r.b p e)
    go true false o e a ih k = ih k
    go false t o e a ih k = ih k

-- LEMMA 1: what was taken is what g says
taken_says : (is : ℕ → Bool) (g : ℕ → ℕ → ℕ) (h : List Event) → says is g h ≡ true → (e p x : ℕ) → taken is h e p ≡ Some x → x ≡ g e p
unfolding says or_else taken
taken_says is g [] a e p x k = let z : ◌≡◌ {A = ℕ} 0 1 = cc in absurd (omega arith)
taken_says is g (y ∷ ys) a e p x k =
    go (eqb y.epoch e) (first_taken is p y.answers) refl (first_says is (g y.epoch) p y.answers (left _ _ a) x)
    (taken_says is g ys (right _ _ a) e p x) k
  where
    go : (t : Bool) (o : Option ℕ) → eqb y.epoch e ≡ t → (o ≡ Some x → x ≡ g y.epoch p) → (taken is ys e p ≡ Some x → x ≡ g e p)
        → or_else (cond t o None) (taken is ys e p) ≡ Some x → x ≡ g e p
    go true None t now later k = later k
    go true (Some z) t now later k = rw (← eqb-true y.epoch e t) (now k)
    go false o t now later k = later k

-- so two histories that are as one g says took alike
pub took_alike : (is : ℕ → Bool) (g : ℕ → ℕ → ℕ) (h₁ h₂ : List Event) → says is g h₁ ≡ true → says is g h₂ ≡ true → TookAlike (taken is h₁) (taken is h₂)
took_alike is g h₁ h₂ a₁ a₂ e p x y k₁ k₂ = taken_says is g h₁ a₁ e p x k₁ ∙ sym (taken_says is g h₂ a₂ e p y k₂)

-- READINGS: one has the a that f says for its kind and subject, and a 12 the b that g says for its subject
unfoldable pub reads_as : (ℕ → ℕ → ℕ) → (ℕ → ℕ) → Reading → Bool
reads_as f g x = both (eqb x.a (f x.kind x.subject)) (cond (eqb x.kind 12) (eqb x.b (g x.subject)) true)

reads_as_lem : (f : ℕ → ℕ → ℕ) (g : ℕ → ℕ) (x : Reading) → reads_as f g x ≡ true → (x.a ≡ f x.kind x.subject) × (x.kind ≡ 12 → x.b ≡ g x.subject)
unfolding reads_as
reads_as_lem f g x h = (eqb-true _ _ (left _ _ h), λ k. eqb-true _ _ (rw (eq-eqb x.kind 12 k) at (right _ _ h)))

-- LEMMA 2: readings that are as one f and one g say are alike
pub read_alike : (f : ℕ → ℕ → ℕ) (g : ℕ → ℕ) (rs : List Reading) → every (reads_as f g) rs ≡ true → ReadAlike rs
read_alike f g rs h x y m n k s =
    let u = reads_as_lem f g x (every_at (reads_as f g) rs h x m) in
    let v = reads_as_lem f g y (every_at (reads_as f g) rs h y n) in
    (cc (u.0, v.0), λ t. cc (u.1 t, v.1 (sym k ∙ t)))

-- LISTS are equal, by a test of their members
unfoldable pub eq_by : {A : Type 0} → (A → A → Bool) → List A → List A → Bool
eq_by eq [] [] = true
eq_by eq [] (y ∷ ys) = false
eq_by eq (x ∷ xs) [] = false
eq_by eq (x ∷ xs) (y ∷ ys) = both (eq x y) (eq_by eq xs ys)

by_eq : {A : Type 0} (eq : A → A → Bool) → ((x y : A) → eq x y ≡ true → x ≡ y) → (xs ys : List A) → eq_by eq xs ys ≡ true → xs ≡ ys
unfolding eq_by
by_eq eq k [] [] h = refl
by_eq eq k [] (y ∷ ys) h = cc
by_eq eq k (x ∷ xs) [] h = cc
by_eq eq k (x ∷ xs) (y ∷ ys) h = cc (k x y (left _ _ h), by_eq eq k xs ys (right _ _ h))

abbrev eq_list : List ℕ → List ℕ → Bool
eq_list = eq_by eqb

list_eq : (xs ys : List ℕ) → eq_list xs ys ≡ true → xs ≡ ys
list_eq = by_eq eqb eqb-true

unfoldable pub eq_rec : Rec → Rec → Bool
eq_rec x y = both (both (eqb x.next y.next) (eqb x.kind y.kind)) (both (eqb x.a y.a) (eqb x.b y.b))

rec_eq : (x y : Rec) → eq_rec x y ≡ true → x ≡ y
unfolding eq_rec
rec_eq x y h =
    let n : x.next ≡ y.next = eqb-true _ _ (left _ _ (left _ _ h)) in
    let k : x.kind ≡ y.kind = eqb-true _ _ (right _ _ (left _ _ h)) in
    let a : x.a ≡ y.a = eqb-true _ _ (left _ _ (right _ _ h)) in
    let b : x.b ≡ y.b = eqb-true _ _ (right _ _ (right _ _ h)) in
    λ i. record { next = n i; kind = k i; a = a i; b = b i }

unfoldable pub eq_entry : BatchEntry → BatchEntry → Bool
eq_entry x y = both (eqb x.proposer y.proposer) (eqb x.plaintext y.plaintext)

entry_eq : (x y : BatchEntry) → eq_entry x y ≡ true → x ≡ y
unfolding eq_entry
entry_eq x y h =
    let p : x.proposer ≡ y.proposer = eqb-true _ _ (left _ _ h) in
    let t : x.plaintext ≡ y.plaintext = eqb-true _ _ (right _ _ h) in
    λ i. record { proposer = p i; plaintext = t i }

unfoldable pub eq_batch : Batch → Batch → Bool
eq_batch x y = both (eqb x.epoch y.epoch) (both (eqb x.count y.count) (eq_by eq_entry x.entries y.entries))

batch_eq : (x y : Batch) → eq_batch x y ≡ true → x ≡ y
unfolding eq_batch
batch_eq x y h =
    let e : x.epoch ≡ y.epoch = eqb-true _ _ (left _ _ h) in
    let c : x.count ≡ y.count = eqb-true _ _ (left _ _ (right _ _ h)) in
    let s : x.entries ≡ y.entries = by_eq eq_entry entry_eq _ _ (right _ _ (right _ _ h)) in
    λ i. record { epoch = e i; count = c i; entries = s i }

-- MEMBERS of a list of numbers
unfoldable pub is_in : ℕ → List ℕ → Bool
is_in p [] = false
is_in p (x ∷ xs) = cond (eqb p x) true (is_in p xs)

is_in_lem : (p : ℕ) (xs : List ℕ) → is_in p xs ≡ true → Memᴰ p xs
unfolding is_in
is_in_lem p [] h = absurd (false≢true h)
is_in_lem p (x ∷ xs) h = go (eqb p x) refl h (is_in_lem p xs)
  where
    go : (t : Bool) → eqb p x ≡ t → cond t true (is_in p xs) ≡ true → (is_in p xs ≡ true → Memᴰ p xs) → Memᴰ p (x ∷ xs)
    go true e h later = Memᴰ.head (eqb-true p x e)
    go false e h later = Memᴰ.tail (later h)

unfoldable pub is_not_in : List ℕ → ℕ → Bool
is_not_in xs p = every (λ x. cond (eqb p x) false true) xs

is_not_in_lem : (xs : List ℕ) (p : ℕ) → is_not_in xs p ≡ true → Memᴰ p xs → ⊥
unfolding is_not_in
is_not_in_lem xs p h m = go (eqb p p) (eq-eqb p p refl) (every_at (λ x. cond (eqb p x) false true) xs h p m)
  where
    go : (t : Bool) → t ≡ true → cond t false true ≡ true → ⊥
    go true e k = false≢true k
    go false e k = false≢true e

-- a test of every number below m
unfoldable pub every_below : (ℕ → Bool) → ℕ → Bool
every_below test zero = true
every_below test (suc m) = both (test m) (every_below test m)

below_at : (test : ℕ → Bool) (m : ℕ) → every_below test m ≡ true → (p : ℕ) → p < m → test p ≡ true
unfolding every_below
below_at test zero h p l = absurd (omega arith)
below_at test (suc m) h p l = go (eqb p m) refl (below_at test m (right _ _ h) p)
  where
    go : (t : Bool) → eqb p m ≡ t → (p < m → test p ≡ true) → test p ≡ true
    go true e later = rw (eqb-true p m e) (left _ _ h)
    go false e later = let ne : p ≡ m → ⊥ = eqb-false p m e in later (omega arith)

unfoldable pub rises : ℕ → List ℕ → Bool
rises k [] = true
rises k (x ∷ xs) = both (leb k x) (rises (x + 1) xs)

is_rising : (k : ℕ) (xs : List ℕ) → rises k xs ≡ true → Rising k xs
unfolding rises
is_rising k [] h = tt
is_rising k (x ∷ xs) h = (leb-true k x (left _ _ h), is_rising (x + 1) xs (right _ _ h))

-- ONE BATCH: a test for each field of `Exact`
module _ (n f : ℕ) (h : List Event) (x : Handed) where
  unfoldable pub is_decided : ℕ → Bool
  is_decided p = both (ltb p n) (is_true (decision_taken h x.batch.epoch p))

  is_decided_lem : (p : ℕ) → is_decided p ≡ true → DecidedTrue n h x.batch.epoch p
  unfolding is_decided
  is_decided_lem p t = (ltb-true p n (left _ _ t), true_one _ (right _ _ t))

  unfoldable pub is_covered : ℕ → Bool
  is_covered p = cond (is_true (decision_taken h x.batch.epoch p)) (cond (is_in p (contributors x)) true (is_in p (unreadable x))) true

  is_covered_lem : (p : ℕ) → is_covered p ≡ true → DecidedTrue n h x.batch.epoch p → Memᴰ p (contributors x) ⊎ Memᴰ p (unreadable x)
  unfolding is_covered
  is_covered_lem p t d = go (is_in p (contributors x)) refl (rw (is_true_lem _ d.1) at t)
    where
      go : (s : Bool) → is_in p (contributors x) ≡ s → cond s true (is_in p (unreadable x)) ≡ true → Memᴰ p (contributors x) ⊎ Memᴰ p (unreadable x)
      go true e k = inl (is_in_lem p (contributors x) e)
      go false e k = inr (is_in_lem p (unreadable x) k)

  unfoldable pub is_named : Bool
  is_named = both (eq_list (names_of x.thirteens) (decided_true_in n h x.batch.epoch)) (leb (n - f) (ones_in n h x.batch.epoch))

  unfoldable pub is_split : Bool
  is_split = both (every_below is_covered n) (both (every is_decided (contributors x)) (both (every is_decided (unreadable x)) (every (is_not_in (unreadable x)) (contributors x))))

  unfoldable pub is_counted : Bool
  is_counted =
      both (both (rises 0 (contributors x)) (rises 0 (unreadable x)))
      (both (eqb (length (contributors x) + length (unreadable x)) (ones_in n h x.batch.epoch)) (eqb x.batch.count (length x.batch.entries)))

  unfoldable pub is_exact : Bool
  is_exact = both is_named (both is_split is_counted)

  is_exact_lem : is_exact ≡ true → Exact n f h x
  unfolding is_exact is_named is_split is_counted
  is_exact_lem t =
      let a = left _ _ t in
      let b = left _ _ (right _ _ t) in
      let c = right _ _ (right _ _ t) in
      record {
        named = list_eq _ _ (left _ _ a);
        enough = leb-true _ _ (right _ _ a);
        decided = λ p d. is_covered_lem p (below_at is_covered n (left _ _ b) p d.0) d;
        contributing = λ p m. is_decided_lem p (every_at is_decided (contributors x) (left _ _ (right _ _ b)) p m);
        not_reading = λ p m. is_decided_lem p (every_at is_decided (unreadable x) (left _ _ (right _ _ (right _ _ b))) p m);
        apart = λ p m k. is_not_in_lem (unreadable x) p (every_at (is_not_in (unreadable x)) (contributors x) (right _ _ (right _ _ (right _ _ b))) p m) k;
        contributors_rise = is_rising 0 (contributors x) (left _ _ (left _ _ c));
        unreadable_rise = is_rising 0 (unreadable x) (right _ _ (left _ _ c));
        together = eqb-true _ _ (left _ _ (right _ _ c));
        count = eqb-true _ _ (right _ _ (right _ _ c));
      }

-- ONE RUN: the 13s and the faults 5 of every call are those of its batches
module _ (n f : ℕ) (encrypted : ℕ → Bool) (h : List Event) where
  unfoldable pub is_dealt : Event → Bool
  is_dealt x =
      both (eq_by eq_rec (thirteens_in x.answers) (thirteens_of (handed_in n encrypted h x)))
      (eq_list x.fives (unreadable_of (handed_in n encrypted h x)))

  unfoldable pub is_one : Bool
  is_one = both (every is_dealt h) (every (is_exact n f h) (handed n encrypted h))

  pub is_one_lem : is_one ≡ true → One n f encrypted h
  unfolding is_one is_dealt
  is_one_lem t =
      record {
        thirteens = λ x m. by_eq eq_rec rec_eq _ _ (left _ _ (every_at is_dealt h (left _ _ t) x m));
        fives = λ x m. list_eq _ _ (right _ _ (every_at is_dealt h (left _ _ t) x m));
        exact = λ x m. is_exact_lem n f h x (every_at (is_exact n f h) (handed n encrypted h) (right _ _ t) x m);
      }

-- TWO RUNS: the batches of one epoch are the same, and so are their unreadable proposers
unfoldable pub is_same : Handed → Handed → Bool
is_same x y = cond (eqb x.batch.epoch y.batch.epoch) (both (eq_batch x.batch y.batch) (eq_list (unreadable x) (unreadable y))) true

is_same_lem : (x y : Handed) → is_same x y ≡ true → x.batch.epoch ≡ y.batch.epoch → (x.batch ≡ y.batch) × (unreadable x ≡ unreadable y)
unfolding is_same
is_same_lem x y h e =
    let t = rw (eq-eqb x.batch.epoch y.batch.epoch e) at h in
    (batch_eq x.batch y.batch (left _ _ t), list_eq _ _ (right _ _ t))

unfoldable pub is_two : ℕ → (ℕ → Bool) → List Event → List Event → Bool
is_two n encrypted h₁ h₂ = every (λ x. every (is_same x) (handed n encrypted h₂)) (handed n encrypted h₁)

pub is_two_lem : (n : ℕ) (encrypted : ℕ → Bool) (h₁ h₂ : List Event) → is_two n encrypted h₁ h₂ ≡ true → Two n encrypted h₁ h₂
unfolding is_two
is_two_lem n encrypted h₁ h₂ t x y mx my e =
    is_same_lem x y (every_at (is_same x) (handed n encrypted h₂) (every_at (λ z. every (is_same z) (handed n encrypted h₂)) (handed n encrypted h₁) t x mx) y my) e

-- all tests of this file, opened
unfoldable pub tests : Unit {0}
unfolding both every is_or says_in says reads_as eq_by eq_rec eq_entry eq_batch is_in is_not_in every_below rises is_decided is_covered is_named is_split is_counted is_exact is_dealt is_one is_same is_two
tests = tt
