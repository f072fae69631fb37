-- `received_proposals` meets its contract: those of the current epoch's words. Assumes nothing.
use Rattle.state.specs.State.{current_epoch}
use Rattle.state.proofs.WordsCode.{words_epoch}
use Rattle.state.proofs.RangeCode.{ok_words}
use Rattle.engine.proofs.Received.{accepted_below}
use Rattle.engine.proofs.queries.received_proposals.Goals as goal

pub received_proposals-requires : goal.received_proposals-requires
received_proposals-requires c = rw c.epoch_in-words.ensures (words_epoch c.args.state.now (ok_words c.args.state.now c.requires) (current_epoch c.args.state.now), accepted_below c.args.state.now c.requires (current_epoch c.args.state.now))

pub epoch_in-words-requires : goal.epoch_in-words-requires
epoch_in-words-requires c = ok_words c.args.state.now c.requires
