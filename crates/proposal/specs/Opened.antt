-- The definitions that a closed term computes with: a line `unfolding opened` opens them all.
use Rattle.steps.specs.Opened as StepsOpened
use Rattle.proposal.specs.Proposal

unfoldable pub opened : Unit {0}
unfolding StepsOpened.opened
    Proposal.received Proposal.accepted Proposal.complete Proposal.after_agreement Proposal.after_broadcast
    Proposal.asks_agreement Proposal.asks_broadcast Proposal.instance_answer Proposal.answer_agreement Proposal.vote_true
    Proposal.after_value Proposal.answer_broadcast Proposal.handle_agreement Proposal.handle_broadcast
opened = tt
