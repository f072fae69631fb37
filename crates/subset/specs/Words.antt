-- The words of one epoch, as far as the subset uses them (docs/STATE.md): 16 words, then 8 + n words for each of n proposers.
use Rattle.std.specs.Prelude.{ℕ, zero, suc, ◌+◌, ◌*◌, List, Bool, true, false, cond, not, get_or, set, replicate, eqb, ltb}
use Rattle.proposal.specs.declared.ProposalState.{ProposalState}
use Rattle.proposal.specs.declared.ProposalState.TheVariants.{Ongoing, HasValue, Accepted, Complete}

-- where the records begin, the length of a proposer's record, and of an epoch
abbrev pub records_at : ℕ
records_at = 16

abbrev pub record_length : ℕ → ℕ
record_length n = 8 + n

abbrev pub epoch_length : ℕ → ℕ
epoch_length n = records_at + n * record_length n

-- the epoch's own words
abbrev pub status_at : ℕ
status_at = 0

abbrev pub decided_at : ℕ
decided_at = 1

abbrev pub accepted_at : ℕ
accepted_at = 2

abbrev pub count_at : ℕ
count_at = 3

-- the status: there is no such epoch, `SubsetState::Ongoing`, `SubsetState::Complete`
abbrev pub status_vacant : ℕ
status_vacant = 0

abbrev pub status_ongoing : ℕ
status_ongoing = 1

abbrev pub status_complete : ℕ
status_complete = 2

abbrev pub status_of : List ℕ → ℕ
status_of w = get_or w status_at 0

abbrev pub is_decided : List ℕ → Bool
is_decided w = not (eqb (get_or w decided_at 0) 0)

abbrev pub accepted_of : List ℕ → ℕ
accepted_of w = get_or w accepted_at 0

abbrev pub count_of : List ℕ → ℕ
count_of w = get_or w count_at 0

-- an epoch whose instances have just been built, of which nothing is known yet
unfoldable pub new_epoch : ℕ → List ℕ
new_epoch n = set (replicate (epoch_length n) 0) status_at status_ongoing

-- word j of proposer p's record, where a record has `size` words
abbrev pub field_at : ℕ → ℕ → ℕ → ℕ
field_at size p j = records_at + p * size + j

abbrev pub record_at : ℕ → ℕ → ℕ → ℕ
record_at n p j = field_at (record_length n) p j

-- the subset's words of a record
abbrev pub proposal_field : ℕ
proposal_field = 0

abbrev pub value_field : ℕ
value_field = 1

abbrev pub arrival_field : ℕ
arrival_field = 7

abbrev pub proposal_at : ℕ → ℕ → ℕ
proposal_at n p = record_at n p proposal_field

abbrev pub value_at : ℕ → ℕ → ℕ
value_at n p = record_at n p value_field

-- who is i-th in the list of contributions
abbrev pub arrival_at : ℕ → ℕ → ℕ
arrival_at n i = record_at n i arrival_field

abbrev pub contributor : ℕ → List ℕ → ℕ → ℕ
contributor n w i = get_or w (arrival_at n i) 0

-- A PROPOSAL in its two words: the tag, and the value
abbrev pub tag_ongoing : ℕ
tag_ongoing = 0

abbrev pub tag_has_value : ℕ
tag_has_value = 1

abbrev pub tag_accepted : ℕ
tag_accepted = 2

abbrev pub tag_complete_false : ℕ
tag_complete_false = 3

abbrev pub tag_complete_true : ℕ
tag_complete_true = 4

-- a tag above these is out of range, and reads as the last
unfoldable pub proposal_of : ℕ → ℕ → ProposalState
proposal_of tag value =
    cond (eqb tag tag_ongoing) Ongoing
    (cond (eqb tag tag_has_value) (HasValue value)
    (cond (eqb tag tag_accepted) Accepted
    (cond (eqb tag tag_complete_false) (Complete false) (Complete true))))

unfoldable pub tag_of : ProposalState → ℕ
tag_of Ongoing = tag_ongoing
tag_of (HasValue v) = tag_has_value
tag_of Accepted = tag_accepted
tag_of (Complete b) = cond b tag_complete_true tag_complete_false

unfoldable pub value_of : ProposalState → ℕ
value_of Ongoing = 0
value_of (HasValue v) = v
value_of Accepted = 0
value_of (Complete b) = 0

-- the tag of p's proposal, and the proposal, where a record has `size` words
abbrev pub proposal_tag : ℕ → List ℕ → ℕ → ℕ
proposal_tag size w p = get_or w (field_at size p proposal_field) 0

abbrev pub proposal_in : ℕ → List ℕ → ℕ → ProposalState
proposal_in size w p = proposal_of (proposal_tag size w p) (get_or w (field_at size p value_field) 0)

unfoldable pub load_proposal : ℕ → List ℕ → ℕ → ProposalState
load_proposal n w p = proposal_in (record_length n) w p

unfoldable pub store_proposal : ℕ → List ℕ → ℕ → ProposalState → List ℕ
store_proposal n w p s = set (set w (proposal_at n p) (tag_of s)) (value_at n p) (value_of s)

-- THE CONTRIBUTIONS that the subset has handed up and the epoch has not handled yet, in the order of their arrival: their number, who is
-- i-th, and each one's value in the record of its proposer
unfoldable pub add_contribution : ℕ → List ℕ → ℕ → ℕ → List ℕ
add_contribution n w p value =
    cond (ltb (count_of w) n)
    (set (set (set w (arrival_at n (count_of w)) p) (value_at n p) value) count_at (count_of w + 1))
    w

-- the list without its entries from the i-th on, of which there are m
unfoldable pub drop_from : ℕ → ℕ → ℕ → List ℕ → List ℕ
drop_from n zero i w = w
drop_from n (suc m) i w = drop_from n m (i + 1) (set (set w (value_at n (contributor n w i)) 0) (arrival_at n i) 0)
