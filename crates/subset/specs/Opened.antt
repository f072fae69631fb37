-- The definitions that a closed term computes with: a line `unfolding opened` opens them all.
use Rattle.proposal.specs.Opened as ProposalOpened
use Rattle.subset.specs.Words
use Rattle.subset.specs.Subset
use Rattle.subset.specs.Bits

unfoldable pub opened : Unit {0}
unfolding ProposalOpened.opened
    Words.new_epoch Words.proposal_of Words.tag_of Words.value_of Words.load_proposal Words.store_proposal
    Words.add_contribution Words.drop_from
    Subset.count_from Subset.complete_from Subset.contributed Subset.at_proposal Subset.broadcast_at Subset.agreement_at
    Subset.vote_from Subset.votes Subset.try_output Subset.propose Subset.handle_message
    Bits.tag_in Bits.proposals_in
opened = tt
