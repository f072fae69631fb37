-- `too_early` meets its contract: 9, 10 and the step of one fault, counted. Assumes nothing.
use Rattle.std.proofs.Common.{refl, ◌∙◌, arith, rules}
use Rattle.steps.specs.Answers.{tape_of}
use Rattle.steps.specs.Steps.{fault}
use Rattle.calls.proofs.CallCode.{end_is, after_same, one_fault, early_counted, early_done}
use Rattle.calls.proofs.call.too_early.Goals as goal

pub writing-step-requires : goal.writing-step-requires
writing-step-requires c = early_counted (fault 1 c.args.sender 0) _ _ c.counting-counter.ensures c.fault.ensures.step

pub returns : goal.returns
returns c = λ s.
    after_same 0 _ _ s s _ _ (c.count_faults.ensures ∙ one_fault c.args.state.now 1 c.args.sender 0) refl c.header.ensures
    ∙ early_done (fault 1 c.args.sender 0) _ _ c.counting-counter.ensures c.fault.ensures.step _ s c.args.table.now _ (tape_of c.args.answers.now) c.writing-step.result c.writing-step.ensures _ c.fault-2.ensures.step _ (search rules)
    (end_is _ _ _ c.new.ensures c.is_end.ensures ∙ c.if-not-is_end.false) (omega (arith, c.if-table-lt2.false))
