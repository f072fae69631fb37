-- DEMAND 3: the claim about two whole lists of calls, each applied by the definitions that the contracts cite. Proved: `agreement` in
-- proofs/Demand3.antt. That it is not empty is shown by two worked pairs of runs (proofs/FirstPairClaim.antt, proofs/SecondPairClaim.antt).
use Rattle.std.specs.Prelude.{ℕ, ◌-◌, ◌+◌, ◌≤◌, ◌<◌, ◌≡◌, ◌⊎◌, Bool, true, length}
use mathlib.Core.List.{List, [], ◌∷◌, ◌++◌, Memᴰ}
use Rattle.std.specs.Prelude.{Option, Some}
use Rattle.steps.specs.Numbers.{contribution_decrypted}
use Rattle.steps.specs.Taken.{thirteens_in}
use Rattle.state.specs.Schedule.{schedule_of, use_on_epoch}
use Rattle.engine.specs.Create.{Numbers, create_reply, create_state}
use Rattle.agreement.specs.History.{Call, Turn, turns, none_fails, Event, history, Handed, handed, handed_in, value_taken, decision_taken, decided_true_in, ones_in, names_of, thirteens_of, unreadable, unreadable_of, contributors, Reading, readings}

-- PREMISES

-- where both runs took something for an epoch and a proposer, it is the same
abbrev pub TookAlike : (ℕ → ℕ → Option ℕ) → (ℕ → ℕ → Option ℕ) → Type 0
TookAlike took₁ took₂ = (e p x y : ℕ) → took₁ e p ≡ Some x → took₂ e p ≡ Some y → x ≡ y

-- "a value has one answer to 8, 9 and 12, a plaintext one to 13, in both runs, whoever proposed it; the answer is a, for 12 also b"
abbrev pub ReadAlike : List Reading → Type 0
ReadAlike rs =
    (x y : Reading) → Memᴰ x rs → Memᴰ y rs → x.kind ≡ y.kind → x.subject ≡ y.subject
    → (x.a ≡ y.a) × (x.kind ≡ contribution_decrypted → x.b ≡ y.b)

-- CONCLUSIONS

-- the proposers decided true in an epoch
abbrev pub DecidedTrue : ℕ → List Event → ℕ → ℕ → Type 0
DecidedTrue n h e p = (p < n) × (decision_taken h e p ≡ Some 1)

-- each number is k or more and above the one before it, so that none stands twice
abbrev pub Rising : ℕ → List ℕ → Type 0
Rising k [] = Unit {0}
Rising k (x ∷ xs) = (k ≤ x) × Rising (x + 1) xs

-- of a batch, on one host
pub record Exact (n f : ℕ) (h : List Event) (x : Handed) : Type 0 where
  -- its 13s name exactly the proposers decided true, by rising index, each once; these are at least N − f
  pub named : names_of x.thirteens ≡ decided_true_in n h x.batch.epoch
  pub enough : n - f ≤ ones_in n h x.batch.epoch
  -- contributors and unreadable are disjoint, and together exactly these
  pub decided : (p : ℕ) → DecidedTrue n h x.batch.epoch p → Memᴰ p (contributors x) ⊎ Memᴰ p (unreadable x)
  pub contributing : (p : ℕ) → Memᴰ p (contributors x) → DecidedTrue n h x.batch.epoch p
  pub not_reading : (p : ℕ) → Memᴰ p (unreadable x) → DecidedTrue n h x.batch.epoch p
  pub apart : (p : ℕ) → Memᴰ p (contributors x) → Memᴰ p (unreadable x) → ⊥
  -- none is named twice: "by rising proposer"; so they are as many as the proposers decided true
  pub contributors_rise : Rising 0 (contributors x)
  pub unreadable_rise : Rising 0 (unreadable x)
  pub together : length (contributors x) + length (unreadable x) ≡ ones_in n h x.batch.epoch
  -- "1 batch (a epoch, b entries)"
  pub count : x.batch.count ≡ length x.batch.entries

-- of one run
pub record One (n f : ℕ) (encrypted : ℕ → Bool) (h : List Event) : Type 0 where
  -- "The 13s of a call go to its step's batches in order": these are all its 13s
  pub thirteens : (x : Event) → Memᴰ x h → thirteens_in x.answers ≡ thirteens_of (handed_in n encrypted h x)
  -- "that a step's faults 5, which name no epoch, are exactly these, batch by batch, is part of demand 3"
  pub fives : (x : Event) → Memᴰ x h → x.fives ≡ unreadable_of (handed_in n encrypted h x)
  pub exact : (x : Handed) → Memᴰ x (handed n encrypted h) → Exact n f h x

-- of both: the batches of one epoch have the same record and entries, in order, and the same unreadable proposers
abbrev pub Two : ℕ → (ℕ → Bool) → List Event → List Event → Type 0
Two n encrypted h₁ h₂ =
    (x y : Handed) → Memᴰ x (handed n encrypted h₁) → Memᴰ y (handed n encrypted h₂)
    → x.batch.epoch ≡ y.batch.epoch → (x.batch ≡ y.batch) × (unreadable x ≡ unreadable y)

pub record Premises (n : ℕ) (encrypted : ℕ → Bool) (h₁ h₂ : List Event) : Type 0 where
  pub values : TookAlike (value_taken h₁) (value_taken h₂)
  pub decisions : TookAlike (decision_taken h₁) (decision_taken h₂)
  pub readings : ReadAlike (readings n encrypted h₁ ++ readings n encrypted h₂)

pub record Conclusions (n f : ℕ) (encrypted : ℕ → Bool) (h₁ h₂ : List Event) : Type 0 where
  pub first : One n f encrypted h₁
  pub second : One n f encrypted h₂
  pub both : Two n encrypted h₁ h₂

-- THE CLAIM. A run: create's numbers and state words, and the calls
pub record Made : Type 0 where
  pub numbers : Numbers
  pub words : List ℕ
  pub calls : List Call

abbrev pub turns_of : Made → List Turn
turns_of m = turns (create_state m.numbers m.words) m.calls

-- "The current epoch begins at the start epoch"
abbrev pub history_of : Made → List Event
history_of m = history m.numbers.epoch (turns_of m)

abbrev pub encrypted_of : Made → ℕ → Bool
encrypted_of m = use_on_epoch (schedule_of m.numbers.schedule m.numbers.first m.numbers.second)

-- "Each list starts from the state that a create with reply 0 left"; "none fails"
pub record Sound (m : Made) : Type 0 where
  pub created : create_reply m.numbers m.words ≡ 0
  pub unfailing : none_fails (turns_of m) ≡ true

-- equal N, f and schedule; own index, key, strategy, look-ahead and start epoch may differ
pub record SameNetwork (m₁ m₂ : Made) : Type 0 where
  pub nodes : m₁.numbers.nodes ≡ m₂.numbers.nodes
  pub faulty : m₁.numbers.faulty ≡ m₂.numbers.faulty
  pub schedule : encrypted_of m₁ ≡ encrypted_of m₂

abbrev pub TwoRuns : Type 0
TwoRuns =
    (m₁ m₂ : Made) → Sound m₁ → Sound m₂ → SameNetwork m₁ m₂
    → Premises m₁.numbers.nodes (encrypted_of m₁) (history_of m₁) (history_of m₂)
    → Conclusions m₁.numbers.nodes m₁.numbers.faulty (encrypted_of m₁) (history_of m₁) (history_of m₂)
