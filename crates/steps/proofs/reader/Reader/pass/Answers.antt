-- `pass` meets its contract: behind a record that stands at a place the chain goes on at its next. Assumes nothing.
use Rattle.std.proofs.Common.{ap, ◌∙◌}
use Rattle.steps.specs.Answers.{Tape, tape, first_record}
use Rattle.steps.proofs.ReaderCode.{rest_of_chain}
use Rattle.steps.proofs.reader.Reader.pass.Goals as goal

pub returns : goal.returns
returns c = rw (← c.self.view_is)
    (ap (λ l. tape c.args.found.next l) (rest_of_chain c.self.inside.answers.now c.self.inside.cursor.place c.args.found (ap (λ (p : Tape). first_record p.rest) c.self.view_is ∙ c.requires)))
