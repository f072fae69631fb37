-- One run of an observer among four nodes, computed: which of its calls ask for a vote 0, and the tests of the rule (`Votes`, specs/Demand2.antt).
-- The last three calls find N−f ones and an undecided agreement too, and do not come to the subset. Assumes nothing.
use Rattle.std.proofs.Common.{ℕ, ◌≡◌, refl, List, [], ◌∷◌, ◌++◌, Bool, true, false, Option, None, replicate}
use Rattle.steps.specs.Steps.{Item, item}
use Rattle.steps.specs.Taken.{is_asked, ones_from}
use Rattle.steps.proofs.CaseTables.{table}
use Rattle.state.specs.State.{state_length, scratch_length}
use Rattle.agreement.specs.History.{Call, propose, message, skip, Event}
use Rattle.agreement.specs.Demand3.{Made, turns_of, history_of}
use Rattle.agreement.specs.Demand2.{net_in, decided_before7, speaks}
use Rattle.agreement.specs.Opened.{opened}
use Rattle.agreement.proofs.FirstPairRuns.{built, replies_in}

-- the agreement about p decides 1
abbrev decides : ℕ → List Item
decides p = item 5 1 p ∷ item 18 0 1 ∷ []

-- vote 0 for p, which stays undecided
abbrev vote_zero : ℕ → List Item
vote_zero p = item 7 1 p ∷ []

abbrev saying : ℕ → ℕ → ℕ → List Item → Call
saying content proposer thing xs = message 1 0 content proposer thing (replicate (scratch_length 4 0) 9) (table xs) (replicate 64 9)

unfoldable pub observer : Made
observer =
    record {
      numbers =
          record {
            nodes = 4;
            faulty = 1;
            ahead = 0;
            own = 4;
            key = 0;
            strategy = 0;
            epoch = 0;
            schedule = 1;
            first = 0;
            second = 0;
          };
      words = replicate (state_length 4 0) 9;
      calls =
          saying 2 0 0 (built ++ decides 0)
          ∷ saying 2 1 0 (decides 1)
          -- the third 1 brings vote 0, and so does the next message, which asks nothing else
          ∷ saying 2 2 0 (decides 2 ++ vote_zero 3)
          ∷ saying 2 0 0 (vote_zero 3)
          -- a share; an observer's propose; and, after a skip, a late message
          ∷ saying 3 0 5 []
          ∷ propose (replicate (scratch_length 4 0) 9) (table []) (replicate 64 9)
          ∷ skip 1
          ∷ saying 1 3 0 []
          ∷ [];
    }

pub observer_replies : replies_in (turns_of observer) ≡ 0 ∷ 0 ∷ 0 ∷ 0 ∷ 0 ∷ 0 ∷ 0 ∷ 0 ∷ []
unfolding opened table observer replies_in
observer_replies = refl

-- of each call that counts: whether vote 0 for proposer 3 was asked for, whether the call comes to the subset, how many ones there are then,
-- and the decision for proposer 3
pub record Row : Type 0 where
  pub votes : Bool
  pub comes : Bool
  pub ones : ℕ
  pub decision : Option ℕ

abbrev pub row : Bool → Bool → ℕ → Row
row votes comes ones = record { votes = votes; comes = comes; ones = ones; decision = None }

unfoldable pub row_of : List Event → Event → Row
row_of h x = record {
  votes = is_asked 7 3 x.answers;
  comes = speaks (net_in observer) 0 x;
  ones = ones_from (decided_before7 h x) 4 0;
  decision = decided_before7 h x 3;
}

unfoldable pub rows_from : List Event → List Event → List Row
rows_from h [] = []
rows_from h (x ∷ xs) = row_of h x ∷ rows_from (h ++ (x ∷ [])) xs

pub observer_votes : rows_from [] (history_of observer)
    ≡ row false true 1 ∷ row false true 2 ∷ row true true 3 ∷ row true true 3 ∷ row false false 3 ∷ row false false 3 ∷ row false false 3 ∷ []
unfolding opened table observer rows_from row_of is_asked ones_from speaks
observer_votes = refl
