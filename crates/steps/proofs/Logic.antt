-- ONE LOGIC OF RUNS. A walk of a layer goes through its definitions once, for every property of runs that has the rules below; the theorems of
-- that layer are instances. Assumes nothing.
use Rattle.std.proofs.Common.{ℕ, ◌+◌, ◌-◌, ◌≤◌, ◌≡◌, refl, List, [], ◌∷◌, ◌++◌, Bool, true, false, cond, Option, None, Some, arith, eqb}
use Rattle.std.proofs.lemmas.Bool.{cond_both}
use Rattle.steps.specs.declared.reader.Content.{Content}
use Rattle.steps.specs.Answers.{Tape, ask, ask_about}
use Rattle.steps.specs.Steps.{Entry, message, fault}
use Rattle.steps.specs.Runs.{going, failed, Run, ends, before, onward, heard, inside}
use Rattle.steps.specs.Parts.{read_parts}

-- WHAT A RUN HAS IN HAND: a handle that it was told and has not stored, and how many entries it may write besides one for each answer to come
pub record Hand : Type 0 where
  pub handle : Option ℕ
  pub entries : ℕ

abbrev pub hand : Option ℕ → ℕ → Hand
hand x n = record { handle = x; entries = n }

-- a value that hands up nothing
abbrev pub nothing : {A : Type 0} → A → Hand
nothing a = hand None 0

-- WHAT MAY BE READ (answers by their kinds, a 12 whose handle is handed up, parts), written and failed with, and what is known of a handle that
-- was read and of the index of a node
pub record Terms : Type 1 where
  pub Kind : ℕ → Type 0
  pub Text : Type 0
  pub Parts : Type 0
  pub Writes : Entry → Type 0
  pub Number : ℕ → Type 0
  pub Handle : ℕ → Type 0
  pub Index : ℕ → Type 0

-- a property for which these make no difference, but perhaps that an index is one; or not that either
abbrev pub about : (ℕ → Type 0) → Terms
about index = record { Kind = λ k. Unit {0}; Text = Unit {0}; Parts = Unit {0}; Writes = λ e. Unit {0}; Number = λ n. Unit {0}; Handle = λ b. Unit {0}; Index = index }

abbrev pub anything : Terms
anything = about (λ i. Unit {0})

-- terms under which any answer may be read, any index and handle will do, and whatever an epoch writes besides its batch may be written
pub record Permits (T : Terms) : Type 0 where
  pub reads : (k : ℕ) → T.Kind k
  pub text : T.Text
  pub parts : T.Parts
  pub sends : (a b : ℕ) → T.Writes (message 3 a b)
  pub faults : (k a : ℕ) → eqb k 5 ≡ false → T.Writes (fault k a 0)
  pub handle : (b : ℕ) → T.Handle b
  pub index : (i : ℕ) → T.Index i

pub permits_anything : Permits anything
permits_anything = record { reads = λ k. tt; text = tt; parts = tt; sends = λ a b. tt; faults = λ k a e. tt; handle = λ b. tt; index = λ i. tt }

-- THE RULES, for runs of the state S
pub record Logic (T : Terms) (S : Type 0) : Type 1 where
  -- what holds of a run that begins with a hand, a state and a tape, and has f a in hand where it goes on with a
  pub Good : (A : Type 0) → (A → Hand) → Hand → S → Tape → Run S A → Type 0
  -- a state with a handle may be left for another, and what then begins at the other began at the first
  pub Step : Option ℕ → S → Option ℕ → S → Type 0
  pub steps : (A : Type 0) (f : A → Hand) (x y : Option ℕ) (n : ℕ) (s t : S) (p : Tape) (r : Run S A) → Step x s y t → Good A f (hand y n) t p r → Good A f (hand x n) s p r
  pub goes : (A : Type 0) (f : A → Hand) (h : Hand) (a : A) (s : S) (p : Tape) → (f a).handle ≡ h.handle → (f a).entries ≤ h.entries → Good A f h s p (ends (going a) s p)
  pub fails : (A : Type 0) (f : A → Hand) (h : Hand) (n : ℕ) (s : S) (p : Tape) → T.Number n → Good A f h s p (ends (failed n) s p)
  pub writes : (A : Type 0) (f : A → Hand) (x : Option ℕ) (n : ℕ) (e : Entry) (s : S) (p : Tape) (r : Run S A) → T.Writes e
      → Good A f (hand x n) s p r → Good A f (hand x (n + 1)) s p (before (e ∷ []) r)
  -- an answer allows one entry more; a 12 is the one whose handle is handed up
  pub asks : (A : Type 0) (f : A → Hand) (x : Option ℕ) (n kind : ℕ) (s : S) (p : Tape) (k : ℕ → ℕ → Tape → Run S A) → T.Kind kind
      → ((a b : ℕ) (q : Tape) → T.Handle b → Good A f (hand x (n + 1)) s q (k a b q)) → Good A f (hand x n) s p (heard (ask p kind) s k)
  pub asks_about : (A : Type 0) (f : A → Hand) (x : Option ℕ) (n kind who : ℕ) (s : S) (p : Tape) (k : ℕ → ℕ → Tape → Run S A) → T.Kind kind
      → ((a b : ℕ) (q : Tape) → Good A f (hand x (n + 1)) s q (k a b q)) → Good A f (hand x n) s p (heard (ask_about p kind who) s k)
  pub asks_text : (A : Type 0) (f : A → Hand) (n : ℕ) (s : S) (p : Tape) (k : ℕ → ℕ → Tape → Run S A) → T.Text
      → ((a b : ℕ) (q : Tape) → T.Handle b → Good A f (hand (Some b) (n + 1)) s q (k a b q)) → Good A f (hand None n) s p (heard (ask p 12) s k)
  pub parts : (content : Content) (proposer n : ℕ) (s : S) (p : Tape) → T.Parts → Good (Option ℕ) (λ o. hand o 0) (hand None n) s p (read_parts content proposer s p)
  -- entries that are allowed besides are left over, or not used
  pub spares : (A : Type 0) (n left all : ℕ) (s : S) (p : Tape) (r : Run S A) → left + n ≤ all → Good A nothing (hand None n) s p r → Good A (λ a. hand None left) (hand None all) s p r
  -- Rust's `?`
  pub goes_on : (A B : Type 0) (f : A → Hand) (g : B → Hand) (h : Hand) (s : S) (p : Tape) (r : Run S A) (k : A → S → Tape → Run S B)
      → Good A f h s p r → ((a : A) (t : S) (q : Tape) → Good B g (f a) t q (k a t q)) → Good B g h s p (onward r k)

module _ {T : Terms} {S : Type 0} (L : Logic T S) where
  -- a run that goes on and hands up nothing, from the state where it is or from one that may be left for it
  pub here : {A : Type 0} {n : ℕ} (a : A) (s : S) (p : Tape) → L.Good A nothing (hand None n) s p (ends (going a) s p)
  here a s p = L.goes _ nothing _ a s p refl (omega arith)

  pub there : {A : Type 0} {n : ℕ} (a : A) (s t : S) (p : Tape) → L.Step None s None t → L.Good A nothing (hand None n) s p (ends (going a) t p)
  there a s t p e = L.steps _ nothing None None _ s t p _ e (here a t p)

  -- the rules with what a goal tells left out
  pub tell : {A : Type 0} {f : A → Hand} {h : Hand} {a : A} {s : S} {p : Tape} → (f a).handle ≡ h.handle → (f a).entries ≤ h.entries → L.Good A f h s p (ends (going a) s p)
  tell e l = L.goes _ _ _ _ _ _ e l

  pub fail : {A : Type 0} {f : A → Hand} {h : Hand} {n : ℕ} {s : S} {p : Tape} → T.Number n → L.Good A f h s p (ends (failed n) s p)
  fail e = L.fails _ _ _ _ _ _ e

  pub move : {A : Type 0} {f : A → Hand} {x y : Option ℕ} {n : ℕ} {s t : S} {p : Tape} {r : Run S A} → L.Step x s y t → L.Good A f (hand y n) t p r → L.Good A f (hand x n) s p r
  move e g = L.steps _ _ _ _ _ _ _ _ _ e g

  pub put : {A : Type 0} {f : A → Hand} {x : Option ℕ} (n : ℕ) {e : Entry} {s : S} {p : Tape} {r : Run S A} → T.Writes e → L.Good A f (hand x n) s p r → L.Good A f (hand x (n + 1)) s p (before (e ∷ []) r)
  put n w g = L.writes _ _ _ n _ _ _ _ w g

  pub hear : {A : Type 0} {f : A → Hand} {x : Option ℕ} (n kind who : ℕ) {s : S} {p : Tape} {k : ℕ → ℕ → Tape → Run S A} → T.Kind kind
      → ((a b : ℕ) (q : Tape) → L.Good A f (hand x (n + 1)) s q (k a b q)) → L.Good A f (hand x n) s p (heard (ask_about p kind who) s k)
  hear n kind who e g = L.asks_about _ _ _ n kind who _ _ _ e g

  pub next : {A B : Type 0} {f : A → Hand} {g : B → Hand} {h : Hand} {s : S} {p : Tape} {r : Run S A} {k : A → S → Tape → Run S B} → L.Good A f h s p r
      → ((a : A) (t : S) (q : Tape) → L.Good B g (f a) t q (k a t q)) → L.Good B g h s p (onward r k)
  next g m = L.goes_on _ _ _ _ _ _ _ _ _ g m

  -- by a test
  pub test : {A : Type 0} {f : A → Hand} {h : Hand} {s : S} {p : Tape} (x : Bool) {r t : Run S A} → (x ≡ true → L.Good A f h s p r) → (x ≡ false → L.Good A f h s p t) → L.Good A f h s p (cond x r t)
  test x {r} {t} g k = cond_both x r t (L.Good _ _ _ _ _) g k

  -- an entry of those that are allowed
  pub one : {A : Type 0} {f : A → Hand} {x : Option ℕ} (n : ℕ) (e : Entry) (s : S) (p : Tape) (r : Run S A) → 1 ≤ n → T.Writes e
      → L.Good A f (hand x (n - 1)) s p r → L.Good A f (hand x n) s p (before (e ∷ []) r)
  one {A} {f} {x} n e s p r l w g = let z : (n - 1) + 1 ≡ n = omega arith in rw z at (L.writes A f x (n - 1) e s p r w g)

  -- and one that is perhaps written, before others
  pub perhaps : {A : Type 0} {f : A → Hand} {x : Option ℕ} (b : Bool) (n : ℕ) (e : Entry) (l : List Entry) (s : S) (p : Tape) (r : Run S A) → 1 ≤ n → T.Writes e
      → ((m : ℕ) → n - 1 ≤ m → L.Good A f (hand x m) s p (before l r)) → L.Good A f (hand x n) s p (before (cond b (e ∷ []) [] ++ l) r)
  perhaps true n e l s p r h w g = one n e s p _ h w (g (n - 1) (omega arith))
  perhaps false n e l s p r h w g = g n (omega arith)

-- A PROPERTY THAT SAYS NOTHING OF THE STATE, as a logic of every state: each step is allowed, and what holds of a run holds of a run of another state
-- that has its verdict, its tape and its log
pub record Stateless (T : Terms) (L : (S : Type 0) → Logic T S) : Type 1 where
  pub allows : (S : Type 0) (x y : Option ℕ) (s t : S) → (L S).Step x s y t
  pub moves : (S R A : Type 0) (f : A → Hand) (h : Hand) (s : S) (t u : R) (p : Tape) (r : Run S A) → (L S).Good A f h s p r → (L R).Good A f h t p (inside (λ _. u) r)

module _ {T : Terms} {L : (S : Type 0) → Logic T S} (Z : Stateless T L) where
  pub free : {S : Type 0} {x y : Option ℕ} {s t : S} → (L S).Step x s y t
  free = Z.allows _ _ _ _ _

  pub elsewhere : {S R A : Type 0} {f : A → Hand} {h : Hand} {s : S} {t u : R} {p : Tape} {r : Run S A} → (L S).Good A f h s p r → (L R).Good A f h t p (inside (λ _. u) r)
  elsewhere g = Z.moves _ _ _ _ _ _ _ _ _ _ g
