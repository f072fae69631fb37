-- `ask_about` meets its contract, by what `peek` found. Assumes nothing.
use Rattle.std.proofs.Common.{sym, ◌∙◌}
use Rattle.steps.specs.Answers.{ask_about}
use Rattle.steps.proofs.ReaderCode.{asked_none, asked_taken}
use Rattle.steps.proofs.reader.Reader.ask_about.Goals as goal

pub returns : goal.returns
unfolding ask_about
returns g c = rw (sym c.number.ensures) (c.take.ensures ∙ asked_taken _ c.args.self.now c.in-Some.found (sym c.peek.ensures ∙ c.in-Some.is))

pub returns-in_default : goal.returns-in_default
unfolding ask_about
returns-in_default g c = asked_none _ c.args.self.now (sym c.peek.ensures ∙ c.in_default.is)
