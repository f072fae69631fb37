-- The definitions that a closed term computes with: a line `unfolding opened` opens them all.
use Rattle.engine.specs.Opened as EngineOpened
use Rattle.agreement.specs.History
use Rattle.agreement.specs.Outputs

unfoldable pub opened : Unit {0}
unfolding EngineOpened.opened
    History.turn_of History.state_after History.turns History.none_fails History.events_of History.current_after
    History.history History.taken History.decrypted History.plaintext History.names_from History.count_open
    History.wanted_in History.dealt History.handed_of History.names_of History.thirteens_of History.unreadable_in
    History.proposers_in History.unreadable_of History.reading_of History.value_concerned History.readings_at History.readings_in
    History.readings_of13 History.readings_of_batches History.readings_of_calls
    Outputs.pairs_in Outputs.pairs_read Outputs.pairs_given Outputs.plaintext_of Outputs.times_asked_in Outputs.is_handled
opened = tt
