-- `finish` meets its contract: 10, or what the second run wrote, and the commit. Assumes nothing.
use Rattle.std.proofs.Common.{refl, ap, ◌∙◌, arith, rules}
use Rattle.work.specs.Shape.{count_more}
use Rattle.calls.proofs.CallCode.{after_same, done_written}
use Rattle.calls.proofs.call.finish.Goals as goal

pub returns : goal.returns
returns c = λ s.
    after_same 0 _ _ s s _ _ (c.count_faults.ensures ∙ ap (λ v. count_more v c.args.counted.faults.at) c.commit.ensures) refl c.header.ensures
    ∙ done_written c.requires.0 s _ _ c.args.counted c.requires.1 (omega (arith, c.records.ensures, c.if-table-records.false)) c.writing-step.result c.writing-step.ensures _ c.new-again.ensures _ c.run.ensures.run _ (search rules)
