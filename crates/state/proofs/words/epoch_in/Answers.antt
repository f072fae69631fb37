-- `epoch_in` meets its contract: a part of the state is lent. Assumes nothing.
use Rattle.state.proofs.WordsCode.{part_words}
use Rattle.state.proofs.words.epoch_in.Goals as goal

pub returns : goal.returns
returns c = part_words c.args.state.now c.args.epoch c.part_of.result.start c.part_of.result.end c.part_of.ensures.0 c.part_of.ensures.1
