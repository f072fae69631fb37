-- `is_end` meets its contract: the chain has ended where it has no first record. Assumes nothing.
use Rattle.std.proofs.Common.{sym, ap, ◌∙◌, is_some}
use Rattle.steps.proofs.ReaderCode.{ended}
use Rattle.steps.proofs.reader.Reader.is_end.Goals as goal

pub returns : goal.returns
returns c = ended c.args.self.now.rest _ (ap is_some (sym c.peek.ensures) ∙ c.is_none.ensures)
