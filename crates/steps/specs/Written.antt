-- The step under construction as the code lends it.
use Rattle.std.specs.Prelude.{ℕ, ◌≡◌, Result}
use Rattle.steps.specs.Answers.{Tape}
use Rattle.steps.specs.Steps.{Out, out}
use Rattle.steps.specs.Kinds.{verdict_as, failure_number}
use Rattle.steps.specs.Runs.{Run, Left, ends}
use Rattle.steps.specs.declared.kinds.Stop.{Stop}
use Rattle.steps.specs.declared.kinds.Failure.{Failure}
use Rattle.steps.specs.declared.step.Writer.{Writer}

-- the step with the words of its table
abbrev pub out_of : Writer → Out
out_of w = out w.step w.words.now

-- the table that is lent is the same one
abbrev pub same_table : Writer → Writer → Type 0
same_table v w = w.words.ghost_name ≡ v.words.ghost_name

-- what a function leaves: its state and result, where the reader stands, and the step; `number` gives the number of a failure
abbrev pub left_as : {E S A : Type 0} → (E → ℕ) → S → Result A (Stop E) → Tape → Writer → Left S A
left_as number s r p w = record { state = s; verdict = verdict_as number r; tape = p; out = out_of w }

abbrev pub left : {S A : Type 0} → S → Result A (Stop Failure) → Tape → Writer → Left S A
left s r p w = left_as failure_number s r p w

-- one that has no state of its own
abbrev pub left_stateless : {A : Type 0} → Result A (Stop Failure) → Tape → Writer → Left (Unit {0}) A
left_stateless r p w = left tt r p w

-- and one that writes nothing
abbrev pub left_reading_as : {E S A : Type 0} → (E → ℕ) → S → Result A (Stop E) → Tape → Run S A
left_reading_as number s r p = ends (verdict_as number r) s p

abbrev pub left_reading : {S A : Type 0} → S → Result A (Stop Failure) → Tape → Run S A
left_reading s r p = left_reading_as failure_number s r p
