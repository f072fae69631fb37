-- `read_parts` meets its contract. The invariant: what the parts from here on leave is what the parts from the start leave. The measure
-- is how many records are left. Assumes nothing.
use Rattle.std.proofs.Common.{sym, ◌∙◌}
use Rattle.steps.proofs.ReaderCode.{first_shorter, last_counts, parts_ended, parts_stopped, parts_turned}
use Rattle.steps.proofs.reader.Reader.read_parts.Goals as goal

pub returns-then-not-is_part-clause-parts : goal.returns-then-not-is_part-clause-parts
returns-then-not-is_part-clause-parts c = parts_stopped _ _ _ c.loop-found.self c.in-Some.found (sym c.peek.ensures ∙ c.in-Some.is) (sym c.is_part.ensures ∙ c.if-not-is_part.true) c.loop-found.writer ∙ c.loop-found.invariant.parts

pub loop-found-smaller : goal.loop-found-smaller
loop-found-smaller c = rw c.pass.ensures (first_shorter c.loop-found.self.rest c.in-Some.found (sym c.peek.ensures ∙ c.in-Some.is))

pub loop-found-preserved : goal.loop-found-preserved
loop-found-preserved c = record {
  parts = rw c.pass.ensures (parts_turned _ _ _ c.loop-found.self c.in-Some.found (sym c.peek.ensures ∙ c.in-Some.is) (sym c.is_part.ensures ∙ c.if-not-is_part.false) _ _ _ c.write_part.ensures.step (last_counts _ _ _ _ _ c.or-output.ensures c.output.ensures)) ∙ c.loop-found.invariant.parts;
  table = c.write_part.ensures.table ∙ c.loop-found.invariant.table;
}

pub returns-clause-parts : goal.returns-clause-parts
returns-clause-parts c = parts_ended _ _ _ c.loop-found.self (sym c.peek.ensures ∙ c.in_default.is) c.loop-found.writer ∙ c.loop-found.invariant.parts
