-- `figure` meets its contract: the entry that it reads is inside the table and right. Assumes nothing.
use Rattle.state.proofs.Sheet.{sheet_right}
use Rattle.state.proofs.range.figure.Goals as goal

pub returns : goal.returns
returns c = sheet_right c.args.n c.args.ahead c.requires
