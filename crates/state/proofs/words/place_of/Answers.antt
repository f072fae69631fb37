-- `place_of` meets its contract. Assumes nothing.
use Rattle.state.proofs.WordsCode.{place_code}
use Rattle.state.proofs.words.place_of.Goals as goal

pub returns : goal.returns
returns c = place_code c.args.state.now c.requires c.args.epoch _ _ c.epochs_at.ensures c.epoch_length-length.ensures
