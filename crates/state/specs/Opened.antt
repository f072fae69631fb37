-- The definitions that a closed term computes with: a line `unfolding opened` opens them all.
use Rattle.epochwords.specs.Opened as WordsOpened
use Rattle.state.specs.Schedule
use Rattle.state.specs.State

unfoldable pub opened : Unit {0}
unfolding WordsOpened.opened
    Schedule.schedule_of Schedule.use_on_epoch Schedule.schedule_ok Schedule.used_first Schedule.used_second
    State.net_of State.strategy_of State.encrypted_in State.place_of State.epoch_words State.with_epoch State.without_epoch
    State.epochs_at State.scratch_length State.all_hold State.header_tests State.epochs_in_range State.state_ok
opened = tt
