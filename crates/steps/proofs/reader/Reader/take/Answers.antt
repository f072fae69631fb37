-- `take` meets its contract. Assumes nothing.
use Rattle.steps.proofs.reader.Reader.take.Goals as goal

pub returns-then-not-wanted : goal.returns-then-not-wanted
returns-then-not-wanted c = rw c.if-not-wanted.true

pub returns : goal.returns
returns c = rw (c.if-not-wanted.false, c.pass.ensures)
