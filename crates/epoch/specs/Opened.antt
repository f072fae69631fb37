-- The definitions that a closed term computes with: a line `unfolding opened` opens them all.
use Rattle.epochwords.specs.Opened as WordsOpened
use Rattle.epoch.specs.Epoch
use Rattle.epoch.specs.Orders

unfoldable pub opened : Unit {0}
unfolding WordsOpened.opened
    Epoch.received_proposals Epoch.first_contributions Epoch.entry_after Epoch.unexpected_from Epoch.unexpected_shares
    Epoch.handles_now Epoch.subset_complete Epoch.proposal_dropped Epoch.process_decryption Epoch.call_entry
    Epoch.input_ciphertext Epoch.send_decryption_share Epoch.handle_decryption_share Epoch.finish_at Epoch.finish_from
    Epoch.handle_contribution Epoch.handle_from Epoch.handle_contributions Epoch.process_subset Epoch.handed_up
    Epoch.call_subset Epoch.propose Epoch.handle_message_content
    Orders.received_bits Orders.is_unexpected Orders.by_sender Orders.by_proposer Orders.handle_each
opened = tt
