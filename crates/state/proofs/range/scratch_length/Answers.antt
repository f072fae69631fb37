-- `scratch_length` meets its contract. Assumes nothing.
use Rattle.state.specs.State.{scratch_length}
use Rattle.state.proofs.range.scratch_length.Goals as goal

pub returns : goal.returns
unfolding scratch_length
returns c = c.requires.long
