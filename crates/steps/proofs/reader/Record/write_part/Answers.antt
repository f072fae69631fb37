-- `write_part` meets its contract: a message, a fault, or no entry. Assumes nothing.
use Rattle.std.proofs.Common.{◌∙◌}
use Rattle.steps.proofs.Parts.{message_part_lem, fault_part_lem, other_part}
use Rattle.steps.proofs.reader.Record.write_part.Goals as goal

pub returns-then-self-eq-MESSAGE_PART-clause-step : goal.returns-then-self-eq-MESSAGE_PART-clause-step
returns-then-self-eq-MESSAGE_PART-clause-step c = (rw c.from.ensures at c.message.ensures.step) ∙ message_part_lem _ _ _ _ _ _ c.if-self-eq-MESSAGE_PART.true

pub returns-then-self-eq-FAULT_PART-clause-step : goal.returns-then-self-eq-FAULT_PART-clause-step
returns-then-self-eq-FAULT_PART-clause-step c = (rw c.from-then-self-eq-FAULT_PART.ensures at c.fault.ensures.step) ∙ fault_part_lem _ _ _ _ _ _ c.if-self-eq-MESSAGE_PART.false c.if-self-eq-FAULT_PART.true

pub returns-else-self-eq-FAULT_PART-clause-step : goal.returns-else-self-eq-FAULT_PART-clause-step
returns-else-self-eq-FAULT_PART-clause-step c = other_part _ _ _ _ _ _ c.if-self-eq-MESSAGE_PART.false c.if-self-eq-FAULT_PART.false
