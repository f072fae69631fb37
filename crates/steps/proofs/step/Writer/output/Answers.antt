-- `output` meets its contract: the chain and the words are what `put` left. Assumes nothing.
use Rattle.std.proofs.Common.{sym}
use Rattle.steps.proofs.ChainLaws.{output_put}
use Rattle.steps.proofs.step.Writer.output.Goals as goal

pub returns-clause-step : goal.returns-clause-step
returns-clause-step g c = rw (sym c.number.ensures) (output_put c.args.self.now.step c.args.self.now.words.now c.put.new.words c.put.new.self _ c.args.a c.args.b c.put.ensures)
