-- The definitions that a closed term computes with: a line `unfolding opened` opens them all.
use Rattle.work.specs.Opened as WorkOpened
use Rattle.calls.specs.Calls
use Rattle.calls.specs.Checks

unfoldable pub opened : Unit {0}
unfolding WorkOpened.opened
    Calls.zeroed Calls.count_faults Calls.is_end Calls.conclude_as Calls.propose_after Calls.content_ok Calls.item_ok
    Calls.content_of Calls.message_call Calls.skip_reply Calls.skip_state Calls.query_reply Calls.current_epoch_result
    Calls.has_input_result Calls.received_proposals_result Calls.fault_count_result
    Checks.then_check Checks.first_checks Checks.epoch_check Checks.message_check Checks.after_checks
opened = tt
