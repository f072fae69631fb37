-- The step: its entries in the order in which they arise, its three lists, and the words that they become.
use Rattle.std.specs.Prelude.{ℕ, ◌+◌, ◌*◌, ◌/◌, ◌≤◌, List, [], ◌∷◌, ◌++◌, cond, length, drop, set, ltb, leb, eqb}
use Rattle.steps.specs.Numbers.{count_limit}
use Rattle.steps.specs.declared.step.Chain.{Chain}
use Rattle.steps.specs.declared.step.Step.{Step}

-- an entry: the list that it belongs to, its kind and its two words
pub data Entry : Type 0 where
  message : ℕ → ℕ → ℕ → Entry
  fault : ℕ → ℕ → ℕ → Entry
  output : ℕ → ℕ → ℕ → Entry

-- a record of a list, without its next
pub record Item : Type 0 where
  pub kind : ℕ
  pub a : ℕ
  pub b : ℕ

abbrev pub item : ℕ → ℕ → ℕ → Item
item k a b = record { kind = k; a = a; b = b }

-- the three lists of a log
unfoldable pub messages : List Entry → List Item
messages [] = []
messages (message k a b ∷ l) = item k a b ∷ messages l
messages (fault k a b ∷ l) = messages l
messages (output k a b ∷ l) = messages l

unfoldable pub faults : List Entry → List Item
faults [] = []
faults (message k a b ∷ l) = faults l
faults (fault k a b ∷ l) = item k a b ∷ faults l
faults (output k a b ∷ l) = faults l

unfoldable pub outputs : List Entry → List Item
outputs [] = []
outputs (message k a b ∷ l) = outputs l
outputs (fault k a b ∷ l) = outputs l
outputs (output k a b ∷ l) = item k a b ∷ outputs l

-- THE FINISHED STEP, as the host reads it. The records of a list whose first stands at index i: each next is the index after its
-- own, and "a next of zero ends the chain"
unfoldable pub link_after : ℕ → List Item → ℕ
link_after i [] = 0
link_after i (x ∷ xs) = i + 1

unfoldable pub chain_words : ℕ → List Item → List ℕ
chain_words i [] = []
chain_words i (x ∷ xs) = link_after i xs ∷ x.kind ∷ x.a ∷ x.b ∷ chain_words (i + 1) xs

-- the header's field for a list whose first record would stand at index i
unfoldable pub first_at : ℕ → List Item → ℕ
first_at i [] = 0
first_at i (x ∷ xs) = i

-- "header (first message, first fault, first output, epoch the call is for), then from index 1 all messages, all faults, all outputs"
unfoldable pub laid_out : List Item → List Item → List Item → ℕ → List ℕ
laid_out ms fs os epoch =
    first_at 1 ms ∷ first_at (1 + length ms) fs ∷ first_at (1 + length ms + length fs) os ∷ epoch
    ∷ (chain_words 1 ms ++ (chain_words (1 + length ms) fs ++ chain_words (1 + length ms + length fs) os))

abbrev pub step_words : List Entry → ℕ → List ℕ
step_words log epoch = laid_out (messages log) (faults log) (outputs log) epoch

-- the table after a successful call: "records past the step are untouched"
abbrev pub written : List ℕ → List Entry → ℕ → List ℕ
written w log epoch = step_words log epoch ++ drop (length (step_words log epoch)) w

-- the table after a failed call: "only a header with three zeros"
abbrev pub written_failed : List ℕ → ℕ → List ℕ
written_failed w epoch = written w [] epoch

-- THE STEP UNDER CONSTRUCTION: where each list stands, and the words of the table
pub record Out : Type 0 where
  pub step : Step
  pub words : List ℕ

abbrev pub out : Step → List ℕ → Out
out s w = record { step = s; words = w }

pub record Chained : Type 0 where
  pub chain : Chain
  pub words : List ℕ

abbrev pub chained : Chain → List ℕ → Chained
chained c w = record { chain = c; words = w }

-- the next of the record before record i of a chain that ends at index end
unfoldable pub next_of : ℕ → ℕ → ℕ
next_of i end = cond (eqb i end) 0 i

-- a chain with one record more; counting stops at 2^32
unfoldable pub advance : Chain → Chain
advance c = cond (leb count_limit c.at) c (record { at = c.at + 1; end = c.end })

-- the words with the chain's next record in them, where the table has it
unfoldable pub put_at : List ℕ → Chain → ℕ → ℕ → ℕ → List ℕ
put_at w c k a b =
    cond (leb count_limit c.at) w
    (cond (ltb c.at (length w / 4))
    (set (set (set (set w (c.at * 4) (next_of (c.at + 1) c.end)) (c.at * 4 + 1) k) (c.at * 4 + 2) a) (c.at * 4 + 3) b)
    w)

unfoldable pub put_entry : Out → Entry → Out
put_entry o (message k a b) =
    out (record { messages = advance o.step.messages; faults = o.step.faults; outputs = o.step.outputs }) (put_at o.words o.step.messages k a b)
put_entry o (fault k a b) =
    out (record { messages = o.step.messages; faults = advance o.step.faults; outputs = o.step.outputs }) (put_at o.words o.step.faults k a b)
put_entry o (output k a b) =
    out (record { messages = o.step.messages; faults = o.step.faults; outputs = advance o.step.outputs }) (put_at o.words o.step.outputs k a b)

-- all entries, in order
unfoldable pub put_all : Out → List Entry → Out
put_all o [] = o
put_all o (e ∷ es) = put_all (put_entry o e) es

-- the step of a first run, which has no table and counts
abbrev pub counting : Step
counting =
    record {
      messages = record { at = 0; end = 0 };
      faults = record { at = 0; end = 0 };
      outputs = record { at = 0; end = 0 };
    }

-- what counting leaves: no count is above 2^32
pub record Counted (s : Step) : Type 0 where
  pub messages : s.messages.at ≤ count_limit
  pub faults : s.faults.at ≤ count_limit
  pub outputs : s.outputs.at ≤ count_limit

-- the step of a second run: where each list of a counted step begins and ends
abbrev pub writing : Step → Step
writing s =
    record {
      messages = record { at = 1; end = 1 + s.messages.at };
      faults = record { at = 1 + s.messages.at; end = 1 + s.messages.at + s.faults.at };
      outputs = record { at = 1 + s.messages.at + s.faults.at; end = 1 + s.messages.at + s.faults.at + s.outputs.at };
    }

-- the records of a counted step, its header among them
abbrev pub records : Step → ℕ
records s = 1 + s.messages.at + s.faults.at + s.outputs.at

-- the header's field for a chain that has not begun
unfoldable pub first_of : Chain → ℕ
first_of c = cond (eqb c.at c.end) 0 c.at

unfoldable pub put_header : List ℕ → Step → ℕ → List ℕ
put_header w s epoch = set (set (set (set w 0 (first_of s.messages)) 1 (first_of s.faults)) 2 (first_of s.outputs)) 3 epoch
