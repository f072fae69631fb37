-- `header` meets its contract: four words are set. Assumes nothing.
use Rattle.std.proofs.Common.{arith, length-set}
use Rattle.steps.specs.Steps.{put_header}
use Rattle.steps.proofs.step.Step.header.Goals as goal

pub bounds-words-1 : goal.bounds-words-1
bounds-words-1 c = simp length-set (omega arith)

pub bounds-words-2 : goal.bounds-words-2
bounds-words-2 c = simp length-set (omega arith)

pub returns : goal.returns
unfolding put_header
returns c = rw (c.first.ensures, c.first-2.ensures, c.first-3.ensures)
