-- What the tables of computed cases are made of. A crate's table has its operations, what is seen of them, and `apply`; it stands under one
-- statement, `AllHold`, which is proved by computing the definitions. Assumes nothing.
use Rattle.std.proofs.Common.{ℕ, ◌≡◌, List, [], ◌∷◌}
use Rattle.steps.specs.Answers.{Tape, tape_of}
use Rattle.steps.specs.Steps.{Item, item, chain_words, first_at}

-- a row: an operation, and what must be seen of it
pub record Row (Op Seen : Type 0) : Type 0 where
  pub op : Op
  pub expected : Seen

infix 4 ◌⇒◌
abbrev pub ◌⇒◌ : {Op Seen : Type 0} → Op → Seen → Row Op Seen
op ⇒ expected = record { op = op; expected = expected }

-- a case: the state that it begins with, and its rows
pub record Case (Op S Seen : Type 0) : Type 0 where
  pub start : S
  pub rows : List (Row Op Seen)

abbrev pub case : {Op S Seen : Type 0} → S → List (Row Op Seen) → Case Op S Seen
case start rows = record { start = start; rows = rows }

-- the state after an operation, and what is seen of it
pub record Done (S Seen : Type 0) : Type 0 where
  pub state : S
  pub seen : Seen

abbrev pub done : {S Seen : Type 0} → S → Seen → Done S Seen
done state seen = record { state = state; seen = seen }

unfoldable pub expected_in : {Op Seen : Type 0} → List (Row Op Seen) → List Seen
expected_in [] = []
expected_in (r ∷ rs) = r.expected ∷ expected_in rs

module _ {Op S Seen : Type 0} (apply : Op → S → Done S Seen) where
  -- each operation is applied to the state as the one before left it
  unfoldable pub state_after : List (Row Op Seen) → S → S
  state_after [] s = s
  state_after (r ∷ rs) s = state_after rs (apply r.op s).state

  unfoldable pub seen_in : List (Row Op Seen) → S → List Seen
  seen_in [] s = []
  seen_in (r ∷ rs) s = let d = apply r.op s in d.seen ∷ seen_in rs d.state

  -- THE STATEMENT: in every case, what is seen is what the rows say
  unfoldable pub AllHold : List (Case Op S Seen) → Type 0
  AllHold [] = Unit {0}
  AllHold (c ∷ cs) = (seen_in c.rows c.start ≡ expected_in c.rows) × AllHold cs

-- ANSWERS: one of this kind with a = 1, one with a = 0, and the part 18
abbrev pub yes : ℕ → ℕ → Item
yes kind b = item kind 1 b

abbrev pub no : ℕ → ℕ → Item
no kind b = item kind 0 b

abbrev pub out : ℕ → Item
out b = item 18 0 b

-- the answer table with these records, one after the other, and the tape of it
unfoldable pub table : List Item → List ℕ
table rs = first_at 1 rs ∷ 0 ∷ 0 ∷ 0 ∷ chain_words 1 rs

abbrev pub answers : List Item → Tape
answers rs = tape_of (table rs)

-- what a table computes with, beside the definitions
unfoldable pub opened : Unit {0}
unfolding expected_in state_after seen_in AllHold table
opened = tt
