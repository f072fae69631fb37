-- `clear_epoch` meets its contract: a part of the state is cleared. Assumes nothing.
use Rattle.state.proofs.WordsCode.{part_clear}
use Rattle.state.proofs.words.clear_epoch.Goals as goal

pub returns : goal.returns
returns c = part_clear c.args.state.now c.args.epoch c.part_of-part.result.start c.part_of-part.result.end c.part_of-part.ensures.0 c.part_of-part.ensures.1 c.requires _ (c.fill.ensures.after (λ y e. e))
