-- `run_twice` meets its contract, from what the first run left. Assumes nothing.
use Rattle.std.proofs.Common.{sym, ap, ◌∙◌, rules}
use Rattle.steps.specs.Kinds.{verdict_of}
use Rattle.calls.proofs.CallCode.{failed_read, done_empty, done_read}
use Rattle.calls.proofs.call.run_twice.Goals as goal
use Rattle.calls.proofs.call.run_twice.Goals.{in_default-via-in-Err+in-Failed, in_default-via-in-Ok}

pub returns-in-Err-Failed : goal.returns-in-Err-Failed
returns-in-Err-Failed c = λ s. c.close.ensures s ∙ failed_read c.requires s _ _ _ c.new-reader.ensures _ c.counting-counter.ensures _ c.run-outcome.ensures.run _ (search rules) (sym c.is_end-read.ensures ∙ c.if-not-read.false)

pub returns-in-Ok : goal.returns-in-Ok
returns-in-Ok c = λ s.
    c.close-in-Ok.ensures s
    ∙ done_empty c.requires s _ _ _ c.new-reader.ensures _ c.counting-counter.ensures _ c.run-outcome.ensures.run (ap verdict_of c.in-Ok.is) (sym c.is_end-read.ensures ∙ c.if-not-read.false) (sym c.records.ensures ∙ c.if-records-eq1.true) (c.run-outcome.auto.words ∙ c.requires.long)

pub returns-in-Ok-2 : goal.returns-in-Ok-2
returns-in-Ok-2 c = λ s. c.finish.ensures s ∙ done_read c.requires s _ _ _ c.new-reader.ensures _ c.counting-counter.ensures _ c.run-outcome.ensures.run (ap verdict_of c.in-Ok-2.is) (sym c.is_end-read.ensures ∙ c.if-not-read.false)
