-- The definitions that a closed term computes with: a line `unfolding opened` opens them all.
use Rattle.epoch.specs.Opened as EpochOpened
use Rattle.state.specs.Opened as StateOpened
use Rattle.work.specs.HoneyBadger
use Rattle.work.specs.Work
use Rattle.work.specs.Shape

unfoldable pub opened : Unit {0}
unfolding EpochOpened.opened StateOpened.opened
    HoneyBadger.update_epoch HoneyBadger.epoch_state_mut HoneyBadger.in_epoch HoneyBadger.try_output_batches
    HoneyBadger.propose HoneyBadger.handle_message HoneyBadger.clear_below HoneyBadger.skip_to_epoch HoneyBadger.has_input
    HoneyBadger.received_proposals
    Work.built Work.epoch_call Work.batches_from Work.beside Work.work_in Work.propose_work Work.message_work Work.committed
    Shape.try_output_batch Shape.count_more
opened = tt
