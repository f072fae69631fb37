-- THE PAPER'S RULE (Miller et al., CCS 2016, in the words that are quoted below) at the subset layer, over a run of subset calls of one epoch in
-- which no call fails. Values and decisions are read off the answers. Proved: `subset_rule` in proofs/Rule.antt.
use Rattle.std.specs.Prelude.{ℕ, zero, suc, ◌+◌, ◌<◌, ◌≡◌, ◌≢◌, Bool, true, ◌&&◌, ◌||◌, not, get_or, eqb, leb}
use mathlib.Core.List.{List, [], ◌∷◌, ◌++◌, Memᴰ}
use Rattle.std.specs.Prelude.{Option, None, Some}
use Rattle.network.specs.declared.network_info.NetworkInfo.{NetworkInfo}
use Rattle.steps.specs.declared.reader.Content.TheVariants.{Broadcast, Agreement}
use Rattle.steps.specs.Numbers.{agreement_message, propose_true, propose_false, input_subset, handle_subset_message}
use Rattle.network.specs.Network.{Network, is_validator, num_correct}
use Rattle.steps.specs.Answers.{Rec, Tape, tape_of}
use Rattle.steps.specs.Table.{within, table_ok}
use Rattle.steps.specs.Taken.{or_else, is_there, is_true, first_taken, of_value, of_decision, is_asked, ones_from}
use Rattle.steps.specs.Runs.{Verdict, going, refused, failed, Run}
use Rattle.subset.specs.Words.{new_epoch, decided_at, count_of, value_at, contributor}
use Rattle.subset.specs.Subset.{propose, handle_message}

-- all agreements of the next m proposers, from p on, have decided, and every value decided 1 is here
unfoldable pub settled_from : (ℕ → Option ℕ) → (ℕ → Option ℕ) → ℕ → ℕ → Bool
settled_from value decision zero p = true
settled_from value decision (suc m) p =
    is_there (decision p) && (not (is_true (decision p)) || is_there (value p)) && settled_from value decision m (p + 1)

-- "when all have decided, at least N−f of them 1, and every value decided 1 is here"
unfoldable pub is_over : NetworkInfo → (ℕ → Option ℕ) → (ℕ → Option ℕ) → Bool
is_over net value decision =
    settled_from value decision net.num_nodes 0 && leb (num_correct net) (ones_from decision net.num_nodes 0)

-- A CALL of the subset, with its answer table
pub data SubsetCall : Type 0 where
  proposing : SubsetCall
  broadcasting : ℕ → SubsetCall
  agreeing : ℕ → SubsetCall

pub record SubsetEvent : Type 0 where
  pub call : SubsetCall
  pub table : List ℕ

abbrev pub answers : SubsetEvent → List Rec
answers x = (tape_of x.table).rest

-- no table is malformed (reply 5)
unfoldable pub tables_ok : ℕ → List SubsetEvent → Bool
tables_ok n [] = true
tables_ok n (x ∷ xs) = table_ok n x.table && tables_ok n xs

-- what was taken for proposer p in a run
unfoldable pub taken_by : (ℕ → Bool) → List SubsetEvent → ℕ → Option ℕ
taken_by is [] p = None
taken_by is (x ∷ xs) p = or_else (first_taken is p (answers x)) (taken_by is xs p)

module _ (net : NetworkInfo) where
  unfoldable pub run_of : SubsetCall → List ℕ → Tape → Run (List ℕ) Bool
  run_of proposing w tape = propose net input_subset w tape
  run_of (broadcasting p) w tape = handle_message net handle_subset_message Broadcast p w tape
  run_of (agreeing p) w tape = handle_message net handle_subset_message Agreement p w tape

  -- the words after a run of calls, each of which reads its whole chain; none where one is refused or fails
  unfoldable pub words_as : Verdict Bool → List Rec → List ℕ → Option (List ℕ)
  words_as (going done) [] w = Some w
  words_as (going done) (r ∷ rs) w = None
  words_as refused rs w = None
  words_as (failed error) rs w = None

  unfoldable pub then_words : Option (List ℕ) → (List ℕ → Option (List ℕ)) → Option (List ℕ)
  then_words None k = None
  then_words (Some w) k = k w

  unfoldable pub words_after : List ℕ → List SubsetEvent → Option (List ℕ)
  words_after w [] = Some w
  words_after w (x ∷ xs) =
      let r = run_of x.call w (tape_of x.table) in
      then_words (words_as r.verdict r.tape.rest r.state) (λ w. words_after w xs)

-- a contribution, and those that have been handed up
pub record Contribution : Type 0 where
  pub proposer : ℕ
  pub value : ℕ

unfoldable pub contributions_from : ℕ → ℕ → ℕ → List ℕ → List Contribution
contributions_from n zero i w = []
contributions_from n (suc m) i w =
    record { proposer = contributor n w i; value = get_or w (value_at n (contributor n w i)) 0 }
    ∷ contributions_from n m (i + 1) w

abbrev pub contributions : ℕ → List ℕ → List Contribution
contributions n w = contributions_from n (count_of w) 0 w

-- the decision for p, as far as the answers 5 and 6 of a call bring it: before the round of votes 0
abbrev pub decided_before7 : List SubsetEvent → SubsetEvent → ℕ → Option ℕ
decided_before7 h x p = or_else (taken_by of_decision h p) (first_taken (within agreement_message propose_true) p (answers x))

-- a call that comes to the subset: a propose of a validator, or a message
unfoldable pub speaks : NetworkInfo → SubsetCall → Bool
speaks net proposing = is_validator net
speaks net (broadcasting p) = true
speaks net (agreeing p) = true

pub record RuleAt (net : NetworkInfo) (h : List SubsetEvent) (x : SubsetEvent) (w : List ℕ) : Type 0 where
  -- "a delivered value earns a vote 1 while its agreement is undecided": then, and only then, vote 1 is asked for
  pub vote_one : (p : ℕ)
      → is_asked propose_true p (answers x) ≡ (is_there (first_taken of_value p (answers x)) && not (is_there (taken_by of_decision h p)))
  -- "N−f ones bring vote 0 to undecided agreements without a vote", in the Rust also to those with one, "again on each such call. Above: no
  -- vote.": in every call that comes to the subset with exactly N−f ones, and in no other
  pub vote_zero : (p : ℕ) → p < net.num_nodes
      → is_asked propose_false p (answers x)
      ≡ (speaks net x.call && (eqb (ones_from (decided_before7 h x) net.num_nodes 0) (num_correct net) && not (is_there (decided_before7 h x p))))
  -- "No outside call is made in HasValue for broadcast, in Accepted for agreement, in Complete at all."
  pub broadcasts : (k p : ℕ) → of_value k ≡ true → is_asked k p (answers x) ≡ true → (taken_by of_value h p ≡ None) × (taken_by of_decision h p ≢ Some 0)
  pub agrees : (p : ℕ) → is_asked agreement_message p (answers x) ≡ true → taken_by of_decision h p ≡ None
  -- "when all have decided, at least N−f of them 1, and every value decided 1 is here": then, and only then, it is done
  pub done : eqb (get_or w decided_at 0) 1 ≡ is_over net (taken_by of_value (h ++ (x ∷ []))) (taken_by of_decision (h ++ (x ∷ [])))
  -- "the output is those pairs": handed up are the pairs of a proposer decided 1 and its value
  pub handed_up : (p v : ℕ) → taken_by of_decision (h ++ (x ∷ [])) p ≡ Some 1 → taken_by of_value (h ++ (x ∷ [])) p ≡ Some v → p < net.num_nodes
      → Memᴰ (record { proposer = p; value = v }) (contributions net.num_nodes w)
  pub no_others : (c : Contribution) → Memᴰ c (contributions net.num_nodes w)
      → (c.proposer < net.num_nodes) × (taken_by of_decision (h ++ (x ∷ [])) c.proposer ≡ Some 1) × (taken_by of_value (h ++ (x ∷ [])) c.proposer ≡ Some c.value)
  -- nobody is handed up twice
  pub handed_once : (i j : ℕ) → i < count_of w → j < count_of w → contributor net.num_nodes w i ≡ contributor net.num_nodes w j → i ≡ j

abbrev pub SubsetRule : Type 0
SubsetRule =
    (net : NetworkInfo) (h : List SubsetEvent) (x : SubsetEvent) (w : List ℕ) → Network net
    → tables_ok net.num_nodes (h ++ (x ∷ [])) ≡ true
    → words_after net (new_epoch net.num_nodes) (h ++ (x ∷ [])) ≡ Some w → RuleAt net h x w
