-- The batches and unreadable contributions that the words of a step tell (docs/EVIDENCE.md, 'Rules to keep').
use Rattle.std.specs.Prelude.{ℕ, List, [], ◌∷◌, ◌++◌, cond, get_or, eqb}
use Rattle.steps.specs.Numbers.{batch_output, entry_output, batch_deserialization_failed}
use Rattle.steps.specs.Answers.{Rec, chain}

-- WHAT A STEP HOLDS. A batch record's a and b, and its entries by proposer and plaintext, nexts left out
pub record BatchEntry : Type 0 where
  pub proposer : ℕ
  pub plaintext : ℕ

pub record Batch : Type 0 where
  pub epoch : ℕ
  pub count : ℕ
  pub entries : List BatchEntry

-- the records 2 up to the next batch
unfoldable pub entries_in : List Rec → List BatchEntry
entries_in [] = []
entries_in (r ∷ rs) = cond (eqb r.kind entry_output) (record { proposer = r.a; plaintext = r.b } ∷ entries_in rs) []

unfoldable pub batches_in : List Rec → List Batch
batches_in [] = []
batches_in (r ∷ rs) =
    cond (eqb r.kind batch_output) (record { epoch = r.a; count = r.b; entries = entries_in rs } ∷ []) [] ++ batches_in rs

-- the nodes of faults 5
unfoldable pub fives_in : List Rec → List ℕ
fives_in [] = []
fives_in (r ∷ rs) = cond (eqb r.kind batch_deserialization_failed) (r.a ∷ []) [] ++ fives_in rs

-- the header holds the first output at word 2, the first fault at word 1
abbrev pub batches_of : List ℕ → List Batch
batches_of step = batches_in (chain step (get_or step 2 0))

abbrev pub fives_of : List ℕ → List ℕ
fives_of step = fives_in (chain step (get_or step 1 0))
