-- What the functions below the entry points require, and what a call comes to.
use Rattle.std.specs.Prelude.{ℕ, ◌≤◌, ◌≡◌, List, [], true, length}
use Rattle.steps.specs.Table.{table_ok}
use Rattle.steps.specs.Answers.{Tape, tape, tape_of}
use Rattle.steps.specs.declared.step.Step.{Step}
use Rattle.steps.specs.Steps.{out, put_all, counting}
use Rattle.steps.specs.Runs.{going, Run, inside}
use Rattle.subset.specs.Words.{epoch_length}
use Rattle.state.specs.State.{nodes, scratch_of, state_ok}
use Rattle.work.specs.declared.honey_badger.Call.{Call}
use Rattle.work.specs.Work.{Worked, committed}
use Rattle.work.specs.Shape.{CallOk, call_work}
use Rattle.calls.specs.Calls.{After, conclude}

-- WHAT A CALL COMES TO after a run in epoch e. `v` is the state that the commit writes on: `state`, or `state` with has input set. After a
-- failed run nothing is skipped, and the commit writes the epoch's words alone (`propose_failed`, `message_failed` in work/proofs/RunBesideState.antt)
abbrev pub settled : Run Worked (Unit {0}) → ℕ → List ℕ → List ℕ → List ℕ → List ℕ → After
settled r e v state scratch step = conclude (inside (committed v e) r) e state scratch step

-- a call whose answers are all read: it failed, or it is done
abbrev pub all_read : Tape
all_read = tape 0 []

abbrev pub as_done : {S : Type 0} → Run S (Unit {0}) → Run S (Unit {0})
as_done r = record { state = r.state; verdict = going tt; tape = all_read; log = r.log }

-- what a call has tested before it runs
pub record Callable (call : Call) (state scratch answers : List ℕ) : Type 0 where
  pub ok : state_ok state ≡ true
  -- so that no list of its step is counted past its limit
  pub good : table_ok (nodes state) answers ≡ true
  pub nodes : CallOk call (nodes state)
  pub room : scratch_of state ≤ length scratch
  pub first : 4 ≤ length answers

-- the same for the words of its epoch
pub record Runnable (call : Call) (state words answers : List ℕ) : Type 0 where
  pub ok : state_ok state ≡ true
  pub good : table_ok (nodes state) answers ≡ true
  pub long : length words ≡ epoch_length (nodes state)
  pub nodes : CallOk call (nodes state)
  pub first : 4 ≤ length answers

-- the step that its first run counts
abbrev pub counted_by : Call → ℕ → List ℕ → List ℕ → Step
counted_by call epoch state answers = (put_all (out counting []) (call_work call epoch state (tape_of answers)).log).step
