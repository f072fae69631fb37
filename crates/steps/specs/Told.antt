-- What the reader's methods leave.
use Rattle.std.specs.Prelude.{ℕ, Bool, cond, Result, Ok, Err, drop}
use Rattle.steps.specs.Verdicts.{Verdict}
use Rattle.steps.specs.Kinds.{verdict_of as verdict_in}
use Rattle.steps.specs.declared.kinds.Stop.{Stop}
use Rattle.steps.specs.declared.kinds.Failure.{Failure}
use Rattle.steps.specs.declared.kinds.Stop.TheVariants.{NotNext}
use Rattle.steps.specs.declared.reader.Record.{Record}
use Rattle.steps.specs.Answers.{Tape, tape, Asked, verdict_of}

-- the verdict with the words a and b of an answer, and where the reader stands
pub record Told : Type 0 where
  pub verdict : Verdict (ℕ × ℕ)
  pub tape : Tape

abbrev pub told : Result (ℕ × ℕ) (Stop Failure) → Tape → Told
told r p = record { verdict = verdict_in r; tape = p }

abbrev pub heard_in : Asked → Told
heard_in q = record { verdict = verdict_of q.answer; tape = q.tape }

-- the first record, if it is the wanted one
abbrev pub taken : Bool → Record → Tape → Told
taken wanted r p = cond wanted (told (Ok (r.a, r.b)) (tape r.next (drop 1 p.rest))) (told (Err NotNext) p)
