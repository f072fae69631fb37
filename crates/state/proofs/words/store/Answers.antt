-- `store` meets its contract: a part of the state is written. Assumes nothing.
use Rattle.state.proofs.WordsCode.{part_back}
use Rattle.state.proofs.words.store.Goals as goal

pub returns : goal.returns
returns c = rw c.copy.ensures (part_back c.args.state.now c.args.epoch c.part_of-part.result.start c.part_of-part.result.end c.part_of-part.ensures.0 c.part_of-part.ensures.1 _)
