-- Runs of four nodes, computed: the premises of `subset_rule` hold of the first, and it has a vote 1 and a vote 0; in the others, calls that ask nothing. Assumes nothing.
use Rattle.std.proofs.Common.{ℕ, ◌≡◌, refl, List, [], ◌∷◌, ◌++◌, true, false, Option, None, Some, arith, get_or}
use Rattle.network.specs.declared.network_info.NetworkInfo.{NetworkInfo}
use Rattle.network.specs.Network.{Network}
use Rattle.steps.specs.Taken.{first_taken, of_value, of_decision, is_asked, ones_from}
use Rattle.subset.specs.Words.{new_epoch, decided_at}
use Rattle.subset.specs.Opened.{opened}
use Rattle.subset.specs.Rule.{settled_from, is_over, SubsetCall, SubsetEvent, proposing, broadcasting, agreeing, answers, tables_ok, taken_by, run_of, words_as, then_words, words_after, Contribution, contributions_from, contributions, decided_before7, speaks}

abbrev four : NetworkInfo
four = record { num_nodes = 4; num_faulty = 1; our_id = 0; has_key = true }

-- a broadcast message brings p's value, and the vote 1 a decision 1
abbrev brings : ℕ → ℕ → SubsetEvent
brings p v = record {
  call = broadcasting p;
  table = 1 ∷ 0 ∷ 0 ∷ 0 ∷ 2 ∷ 4 ∷ 1 ∷ p ∷ 3 ∷ 18 ∷ 0 ∷ v ∷ 4 ∷ 6 ∷ 1 ∷ p ∷ 0 ∷ 18 ∷ 0 ∷ 1 ∷ [];
}

-- the third brings vote 0 for the fourth, which decides 0
abbrev third : SubsetEvent
third = record {
  call = broadcasting 2;
  table = 1 ∷ 0 ∷ 0 ∷ 0 ∷ 2 ∷ 4 ∷ 1 ∷ 2 ∷ 3 ∷ 18 ∷ 0 ∷ 9 ∷ 4 ∷ 6 ∷ 1 ∷ 2 ∷ 5 ∷ 18 ∷ 0 ∷ 1 ∷ 6 ∷ 7 ∷ 1 ∷ 3 ∷ 0 ∷ 18 ∷ 0 ∷ 0 ∷ [];
}

abbrev earlier : List SubsetEvent
earlier = brings 0 7 ∷ brings 1 8 ∷ []

abbrev contribution : ℕ → ℕ → Contribution
contribution p v = record { proposer = p; value = v }

-- whether it is done, and what was handed up
abbrev seen : Option (List ℕ) → Option (ℕ × List Contribution)
seen None = None
seen (Some w) = Some (get_or w decided_at 0, contributions 4 w)

pub four_run : seen (words_after four (new_epoch 4) (earlier ++ (third ∷ []))) ≡ Some (1, contribution 0 7 ∷ contribution 1 8 ∷ contribution 2 9 ∷ [])
unfolding opened run_of words_as then_words words_after contributions_from
four_run = refl

-- three ones of four, N−f, and their values are enough; two are not
pub four_over : (is_over four (taken_by of_value (earlier ++ (third ∷ []))) (taken_by of_decision (earlier ++ (third ∷ []))) ≡ true)
    × (is_over four (taken_by of_value earlier) (taken_by of_decision earlier) ≡ false)
unfolding opened taken_by settled_from is_over
four_over = (refl, refl)

pub four_network : Network four
four_network = record { some = omega arith; sixteen = omega arith; faulty = omega arith; own = omega arith }

pub four_tables : tables_ok 4 (earlier ++ (third ∷ [])) ≡ true
unfolding opened tables_ok
four_tables = refl

-- vote 1 for proposer 2 and vote 0 for proposer 3 are asked for, and the rule's tests of them
pub four_votes : (is_asked 6 2 (answers third) ≡ true) × (first_taken of_value 2 (answers third) ≡ Some 9) × (taken_by of_decision earlier 2 ≡ None)
    × (is_asked 7 3 (answers third) ≡ true) × (ones_from (decided_before7 earlier third) 4 0 ≡ 3) × (decided_before7 earlier third 3 ≡ None)
    × (is_asked 7 2 (answers third) ≡ false) × (decided_before7 earlier third 2 ≡ Some 1)
unfolding opened taken_by
four_votes = (refl, refl, refl, refl, refl, refl, refl, refl)

-- CALLS THAT ASK NOTHING. A broadcast message in HasValue, an agreement message in Accepted, either in Complete; and no vote 1 for a value
-- that comes in Accepted
abbrev with : SubsetCall → List ℕ → SubsetEvent
with call records = record { call = call; table = records }

abbrev nothing : List ℕ
nothing = 0 ∷ 0 ∷ 0 ∷ 0 ∷ []

-- an answer of this kind about p, with this output
abbrev answering : ℕ → ℕ → ℕ → List ℕ
answering kind p out = 1 ∷ 0 ∷ 0 ∷ 0 ∷ 2 ∷ kind ∷ 1 ∷ p ∷ 0 ∷ 18 ∷ 0 ∷ out ∷ []

abbrev silent : List SubsetEvent
silent =
    with (broadcasting 0) (1 ∷ 0 ∷ 0 ∷ 0 ∷ 2 ∷ 4 ∷ 1 ∷ 0 ∷ 3 ∷ 18 ∷ 0 ∷ 7 ∷ 0 ∷ 6 ∷ 1 ∷ 0 ∷ [])
    ∷ with (broadcasting 0) nothing
    ∷ with (agreeing 1) (answering 5 1 1)
    ∷ with (agreeing 1) nothing
    ∷ with (broadcasting 1) (answering 4 1 8)
    ∷ with (broadcasting 1) nothing
    ∷ with (agreeing 1) nothing
    ∷ []

pub silent_run : seen (words_after four (new_epoch 4) silent) ≡ Some (0, contribution 1 8 ∷ [])
unfolding opened run_of words_as then_words words_after contributions_from
silent_run = refl

-- AN OBSERVER'S PROPOSE asks nothing, N−f ones and an undecided agreement notwithstanding
abbrev observing : NetworkInfo
observing = record { num_nodes = 4; num_faulty = 1; our_id = 4; has_key = false }

abbrev observed : List SubsetEvent
observed =
    with (agreeing 0) (answering 5 0 1)
    ∷ with (agreeing 1) (answering 5 1 1)
    ∷ with (agreeing 2) (1 ∷ 0 ∷ 0 ∷ 0 ∷ 2 ∷ 5 ∷ 1 ∷ 2 ∷ 3 ∷ 18 ∷ 0 ∷ 1 ∷ 0 ∷ 7 ∷ 1 ∷ 3 ∷ [])
    ∷ []

pub observer_run : seen (words_after observing (new_epoch 4) (observed ++ (with proposing nothing ∷ []))) ≡ Some (0, [])
unfolding opened run_of words_as then_words words_after contributions_from
observer_run = refl

pub observer_votes : (is_asked 7 3 (answers (with proposing nothing)) ≡ false) × (speaks observing proposing ≡ false)
    × (ones_from (decided_before7 observed (with proposing nothing)) 4 0 ≡ 3) × (decided_before7 observed (with proposing nothing) 3 ≡ None)
unfolding opened taken_by speaks
observer_votes = (refl, refl, refl, refl)
