-- The parts of an answer: 16 message, 17 fault, 18 output.
use Rattle.std.specs.Prelude.{ℕ, List, [], ◌∷◌, ◌++◌, Bool, true, false, cond, ◌&&◌, eqb, leb}
use Rattle.steps.specs.Numbers.{message_part, fault_part, output_part, broadcast_content, agreement_content, broadcast_fault, agreement_fault}
use Rattle.steps.specs.declared.reader.Content.{Content}
use Rattle.steps.specs.declared.reader.Content.TheVariants.{Broadcast, Agreement}
use Rattle.std.specs.Prelude.{Option}
use Rattle.std.specs.Prelude.{None, Some}
use Rattle.steps.specs.Answers.{Rec, Tape, tape}
use Rattle.steps.specs.Steps.{Entry, message, fault}
use Rattle.steps.specs.Runs.{going, Run}

unfoldable pub is_part : ℕ → Bool
is_part kind = leb message_part kind && leb kind output_part

-- the numbers of a content: its messages in the step are "kind 1 broadcast, 2 agreement"
abbrev pub message_kind : Content → ℕ
message_kind Broadcast = broadcast_content
message_kind Agreement = agreement_content

-- its faults "8 broadcast and 9 agreement fault (b = kind given)"
abbrev pub fault_kind : Content → ℕ
fault_kind Broadcast = broadcast_fault
fault_kind Agreement = agreement_fault

-- a message becomes one of the proposer's, a fault one with the kind given
unfoldable pub part_entries : Content → ℕ → ℕ → ℕ → ℕ → List Entry
part_entries content proposer kind a b =
    cond (eqb kind message_part) (message (message_kind content) proposer b ∷ [])
    (cond (eqb kind fault_part) (fault (fault_kind content) a b ∷ []) [])

-- the output of one part: the b of an 18
unfoldable pub output_of : ℕ → ℕ → Option ℕ
output_of kind b = cond (eqb kind output_part) (Some b) None

-- "Of several outputs the last counts, as `pop` does"
unfoldable pub last_of : Option ℕ → Option ℕ → Option ℕ
last_of earlier None = earlier
last_of earlier (Some b) = Some b

unfoldable pub last_output : Option ℕ → ℕ → ℕ → Option ℕ
last_output output kind b = last_of output (output_of kind b)

-- what parts come to: the last output, where the reader stands, and the entries
pub record PartsTold : Type 0 where
  pub output : Option ℕ
  pub tape : Tape
  pub log : List Entry

-- the parts from here on, where `output` is the last so far and the reader stands at place i
unfoldable pub parts_from : Content → ℕ → Option ℕ → ℕ → List Rec → PartsTold
parts_from content proposer output i [] = record { output = output; tape = tape i []; log = [] }
parts_from content proposer output i (r ∷ rs) =
    elim (is_part r.kind) [
      | true ↦ (let told = parts_from content proposer (last_output output r.kind r.b) r.next rs in
          record { output = told.output; tape = told.tape; log = part_entries content proposer r.kind r.a r.b ++ told.log })
      | false ↦ record { output = output; tape = tape i (r ∷ rs); log = [] }
    ]

abbrev pub told_by : {S : Type 0} → S → PartsTold → Run S (Option ℕ)
told_by s told = record { state = s; verdict = going told.output; tape = told.tape; log = told.log }

-- reading the parts of an answer, in any layer
abbrev pub read_parts : {S : Type 0} → Content → ℕ → S → Tape → Run S (Option ℕ)
read_parts content proposer s p = told_by s (parts_from content proposer None p.place p.rest)
