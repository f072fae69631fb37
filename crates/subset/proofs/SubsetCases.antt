-- Cases of the subset, as one table under one statement, `subset_cases`, which is proved by computing the definitions. Assumes nothing.
use Rattle.std.proofs.Common.{ℕ, zero, suc, ◌+◌, ◌-◌, ◌/◌, refl, List, [], ◌∷◌, Bool, true, false, length, get_or}
use Rattle.steps.specs.declared.reader.Content.TheVariants.{Broadcast, Agreement}
use Rattle.network.specs.declared.network_info.NetworkInfo.{NetworkInfo}
use Rattle.steps.specs.Answers.{Tape}
use Rattle.steps.specs.Steps.{Item}
use Rattle.steps.specs.Runs.{Verdict, going, refused, failed, Run}
use Rattle.steps.proofs.CaseTables
use Rattle.steps.proofs.CaseTables.{Row, ◌⇒◌, Case, case, Done, done, AllHold, yes, no, out, answers}
use Rattle.proposal.specs.declared.ProposalState.{ProposalState}
use Rattle.proposal.specs.declared.ProposalState.TheVariants.{Ongoing, HasValue, Accepted, Complete}
use Rattle.subset.specs.Words.{new_epoch, count_of, value_at, arrival_at, load_proposal, store_proposal}
use Rattle.subset.specs.Subset.{received_proposals, count_accepted, try_output, propose, handle_message}
use Rattle.subset.specs.Opened.{opened}

-- THE TABLE'S LANGUAGE. A call: the own proposal; a broadcast or agreement message for a proposer; the round of votes
pub data Call : Type 0 where
  own : Call
  broadcast agreement : ℕ → Call
  vote : Call

-- the subset with these proposals is called, by node 0 of N with f = (N−1)/3, with these answers. Or how many of these proposals are
-- received, and how many accepted
pub data Op : Type 0 where
  subset : List ProposalState → Call → List Item → Op
  counts : List ProposalState → Op

-- what is seen: the verdict, the proposals afterwards, the contributions handed up (proposer, value), and how many answers are unread
pub data Seen : Type 0 where
  left : Verdict Bool → List ProposalState → List (ℕ × ℕ) → ℕ → Seen
  counted : ℕ → ℕ → Seen

-- the words of an epoch with these proposals, from proposer p on, and back
unfoldable pub store_from : ℕ → ℕ → List ProposalState → List ℕ → List ℕ
store_from n p [] w = w
store_from n p (s ∷ ss) w = store_from n (p + 1) ss (store_proposal n w p s)

unfoldable pub words_of : List ProposalState → List ℕ
words_of ss = store_from (length ss) 0 ss (new_epoch (length ss))

unfoldable pub load_from : ℕ → ℕ → ℕ → List ℕ → List ProposalState
load_from n zero p w = []
load_from n (suc m) p w = load_proposal n w p ∷ load_from n m (p + 1) w

unfoldable pub contributions_from : ℕ → ℕ → ℕ → List ℕ → List (ℕ × ℕ)
contributions_from n zero i w = []
contributions_from n (suc m) i w = (get_or w (arrival_at n i) 0, get_or w (value_at n (get_or w (arrival_at n i) 0)) 0) ∷ contributions_from n m (i + 1) w

abbrev pub node0 : ℕ → NetworkInfo
node0 n = record { num_nodes = n; num_faulty = (n - 1) / 3; our_id = 0; has_key = true }

unfoldable pub called : NetworkInfo → Call → List ℕ → Tape → Run (List ℕ) Bool
called net own w tape = propose net 22 w tape
called net (broadcast p) w tape = handle_message net 23 Broadcast p w tape
called net (agreement p) w tape = handle_message net 23 Agreement p w tape
called net vote w tape = try_output net 23 w tape

abbrev pub left_in : ℕ → Run (List ℕ) Bool → Seen
left_in n r = left r.verdict (load_from n n 0 r.state) (contributions_from n (count_of r.state) 0 r.state) (length r.tape.rest)

-- every row has its own proposals, so that there is no state between them
unfoldable pub apply : Op → Unit {0} → Done (Unit {0}) Seen
apply (subset ss call rs) u = done u (left_in (length ss) (called (node0 (length ss)) call (words_of ss) (answers rs)))
apply (counts ss) u = done u (counted (received_proposals (length ss) (words_of ss)) (count_accepted (length ss) (words_of ss)))

abbrev pub rows : List (Row Op Seen)
rows =
    -- received: HasValue or Complete with 1, and not Accepted; accepted: Accepted or Complete with 1
    (counts (Ongoing ∷ HasValue 7 ∷ Accepted ∷ Complete false ∷ []) ⇒ counted 1 1)
    ∷ (counts (Accepted ∷ Accepted ∷ Complete true ∷ Complete true ∷ []) ⇒ counted 2 4)
    -- HasValue: no call for broadcast; Accepted: none for agreement, and no vote; Complete: no call at all
    ∷ (subset (HasValue 7 ∷ []) (broadcast 0) (yes 4 0 ∷ []) ⇒ left (going false) (HasValue 7 ∷ []) [] 1)
    ∷ (subset (HasValue 7 ∷ []) own (yes 3 0 ∷ []) ⇒ left (going false) (HasValue 7 ∷ []) [] 1)
    ∷ (subset (Accepted ∷ []) (agreement 0) (yes 5 0 ∷ []) ⇒ left (going false) (Accepted ∷ []) [] 1)
    ∷ (subset (Accepted ∷ []) vote (yes 7 0 ∷ []) ⇒ left (going false) (Accepted ∷ []) [] 1)
    ∷ (subset (Complete true ∷ []) (broadcast 0) (yes 4 0 ∷ []) ⇒ left (going true) (Complete true ∷ []) [] 1)
    ∷ (subset (Complete false ∷ []) (agreement 0) (yes 5 0 ∷ []) ⇒ left (going false) (Complete false ∷ []) [] 1)
    ∷ (subset (Accepted ∷ Accepted ∷ Accepted ∷ Complete false ∷ []) vote (yes 7 3 ∷ [])
    ⇒ left (going false) (Accepted ∷ Accepted ∷ Accepted ∷ Complete false ∷ []) [] 1)
    -- below N−f: no vote
    ∷ (subset (Accepted ∷ Ongoing ∷ Ongoing ∷ Ongoing ∷ []) (agreement 1) (yes 5 1 ∷ out 1 ∷ yes 7 2 ∷ [])
    ⇒ left (going false) (Accepted ∷ Accepted ∷ Ongoing ∷ Ongoing ∷ []) [] 1)
    -- at N−f: every proposer that is not Accepted or Complete, HasValue included, in rising order
    ∷ (subset (Accepted ∷ Complete true ∷ Ongoing ∷ HasValue 7 ∷ []) (agreement 2) (yes 5 2 ∷ out 1 ∷ [])
    ⇒ left refused (Accepted ∷ Complete true ∷ Accepted ∷ HasValue 7 ∷ []) [] 0)
    ∷ (subset (Accepted ∷ Complete true ∷ Ongoing ∷ HasValue 7 ∷ []) (agreement 2) (yes 5 2 ∷ out 1 ∷ yes 7 3 ∷ [])
    ⇒ left (going false) (Accepted ∷ Complete true ∷ Accepted ∷ HasValue 7 ∷ []) [] 0)
    -- again on each such call, also where it asks nothing else; the values are handed up by the call's proposer, then by rising proposer
    ∷ (subset (Accepted ∷ HasValue 7 ∷ Accepted ∷ Accepted ∷ []) (broadcast 3) (yes 4 3 ∷ out 8 ∷ yes 7 1 ∷ out 1 ∷ [])
    ⇒ left (going false) (Accepted ∷ Complete true ∷ Accepted ∷ Complete true ∷ []) ((3, 8) ∷ (1, 7) ∷ []) 0)
    ∷ (subset (Accepted ∷ HasValue 7 ∷ Accepted ∷ Accepted ∷ []) (agreement 3) (yes 7 1 ∷ [])
    ⇒ left (going false) (Accepted ∷ HasValue 7 ∷ Accepted ∷ Accepted ∷ []) [] 0)
    -- N 7, f 2: a vote that lifts the count above N−f does not end the round
    ∷ (subset (Accepted ∷ Accepted ∷ Accepted ∷ Accepted ∷ Accepted ∷ Ongoing ∷ Ongoing ∷ []) (agreement 0) (yes 7 5 ∷ out 1 ∷ yes 7 6 ∷ [])
    ⇒ left (going false) (Accepted ∷ Accepted ∷ Accepted ∷ Accepted ∷ Accepted ∷ Accepted ∷ Ongoing ∷ []) [] 0)
    -- above N−f: no vote
    ∷ (subset (Accepted ∷ Accepted ∷ Accepted ∷ Accepted ∷ Accepted ∷ Accepted ∷ Ongoing ∷ []) (agreement 0) (yes 7 6 ∷ [])
    ⇒ left (going false) (Accepted ∷ Accepted ∷ Accepted ∷ Accepted ∷ Accepted ∷ Accepted ∷ Ongoing ∷ []) [] 1)
    -- done when all are Complete, at least N−f of them with 1
    ∷ (subset (Complete true ∷ Complete true ∷ HasValue 7 ∷ Complete false ∷ []) (agreement 2) (yes 5 2 ∷ out 1 ∷ [])
    ⇒ left (going true) (Complete true ∷ Complete true ∷ Complete true ∷ Complete false ∷ []) ((2, 7) ∷ []) 0)
    ∷ (subset (Complete true ∷ Complete true ∷ HasValue 7 ∷ Complete false ∷ []) (agreement 2) (yes 5 2 ∷ out 0 ∷ [])
    ⇒ left (going false) (Complete true ∷ Complete true ∷ Complete false ∷ Complete false ∷ []) [] 0)
    -- a call that fails asks for no vote, and a vote that fails ends the round
    ∷ (subset (Accepted ∷ Accepted ∷ Accepted ∷ Ongoing ∷ []) (broadcast 0) (no 4 0 ∷ yes 7 3 ∷ [])
    ⇒ left (failed 23) (Accepted ∷ Accepted ∷ Accepted ∷ Ongoing ∷ []) [] 1)
    ∷ (subset (Accepted ∷ Accepted ∷ Accepted ∷ Ongoing ∷ []) own (yes 3 0 ∷ no 7 3 ∷ [])
    ⇒ left (failed 22) (Accepted ∷ Accepted ∷ Accepted ∷ Ongoing ∷ []) [] 0)
    ∷ []

-- THE TABLE
unfoldable pub cases : List (Case Op (Unit {0}) Seen)
cases = case tt rows ∷ []

pub subset_cases : AllHold apply cases
unfolding opened CaseTables.opened store_from words_of load_from contributions_from called apply cases
subset_cases = (refl, tt)
