-- The definitions that a closed term computes with: a line `unfolding opened` opens them all.
use Rattle.calls.specs.Opened as CallsOpened
use Rattle.engine.specs.Create

unfoldable pub opened : Unit {0}
unfolding CallsOpened.opened
    Create.number_tests Create.created Create.create_reply Create.create_state
opened = tt
