-- `put` meets its contract: past the limit nothing moves, past the table only the place does, and else the record is set. Assumes nothing.
use Rattle.std.proofs.Common.{arith, length-set, le-ltb, lt-ltb, le-leb}
use Rattle.std.proofs.lemmas.Bool.{lt-leb}
use Rattle.steps.specs.Steps.{advance, put_at}
use Rattle.steps.proofs.step.Chain.put.Goals as goal

pub returns-then-at-ge-COUNT_LIMIT : goal.returns-then-at-ge-COUNT_LIMIT
unfolding advance put_at
returns-then-at-ge-COUNT_LIMIT c = simp (le-leb _ _ c.if-at-ge-COUNT_LIMIT.true, advance, put_at)

pub returns-then-words-at : goal.returns-then-words-at
unfolding advance put_at
returns-then-words-at c = simp (lt-leb _ _ c.if-at-ge-COUNT_LIMIT.false, le-ltb _ _ c.if-words-at.true, advance, put_at)

pub bounds-words-word-2 : goal.bounds-words-word-2
bounds-words-word-2 c = simp length-set (omega arith)

pub bounds-words-word-3 : goal.bounds-words-word-3
bounds-words-word-3 c = simp length-set (omega arith)

pub bounds-words-word-4 : goal.bounds-words-word-4
bounds-words-word-4 c = simp length-set (omega arith)

pub returns : goal.returns
unfolding advance put_at
returns c = simp (lt-leb _ _ c.if-at-ge-COUNT_LIMIT.false, lt-ltb _ _ c.if-words-at.false, advance, put_at, c.next_of.ensures)
