-- The output of the worked pair of runs (FirstPairRuns.antt) with its values, and its answers to kind 8, computed: what specs/Demand2.antt states of every run.
use Rattle.std.proofs.Common.{ℕ, ◌≡◌, refl, List, [], ◌∷◌, cond, ◌&&◌, Option, Some, take}
use Rattle.steps.proofs.CaseTables.{table}
use Rattle.subset.specs.Rule.{is_over, settled_from}
use Rattle.epochwords.specs.Words.{load_decryption}
use Rattle.state.specs.State.{epoch_words}
use Rattle.agreement.specs.History.{Handed, handed, value_taken, decision_taken}
use Rattle.agreement.specs.Demand3.{Made, history_of, encrypted_of}
use Rattle.agreement.specs.Outputs.{Paired, paired, pairs_in, pairs_given, plaintext_of, times_asked_in, is_handled}
use Rattle.agreement.specs.Demand2.{state_after_all, end_of, net_in, strategy_in}
use Rattle.agreement.specs.Opened.{opened}
use Rattle.agreement.proofs.FirstPairRuns.{host_a, host_b}

-- THE BATCHES: for each the pairs of its entries, and those that its 13s and the history give
unfoldable pub pairs_of : Made → List Handed → List (List Paired)
pairs_of m [] = []
pairs_of m (x ∷ xs) = pairs_in x.batch.entries ∷ pairs_given (encrypted_of m) (history_of m) x ∷ pairs_of m xs

-- epoch 0 is encrypted: 11 was taken and decrypts to 21. Epoch 1 is plain
unfoldable pub pairs_out : List (List Paired)
pairs_out =
    (paired 0 (Some 21) ∷ [])
    ∷ (paired 0 (Some 21) ∷ [])
    ∷ (paired 0 (Some 13) ∷ paired 1 (Some 14) ∷ [])
    ∷ (paired 0 (Some 13) ∷ paired 1 (Some 14) ∷ [])
    ∷ []

pub pairs_a : pairs_of host_a (handed 2 (encrypted_of host_a) (history_of host_a)) ≡ pairs_out
unfolding opened table host_a pairs_of pairs_out
pairs_a = refl

pub pairs_b : pairs_of host_b (handed 2 (encrypted_of host_b) (history_of host_b)) ≡ pairs_out
unfolding opened table host_b pairs_of pairs_out
pairs_b = refl

-- KIND 8, for proposers 0 and 1 in epoch 0, then in epoch 1: how often it was asked, and how often the rule says
unfoldable pub eights_in : Made → List ℕ
eights_in m =
    times_asked_in 8 (history_of m) 0 0
    ∷ times_asked_in 8 (history_of m) 0 1
    ∷ times_asked_in 8 (history_of m) 1 0
    ∷ times_asked_in 8 (history_of m) 1 1
    ∷ []

unfoldable pub eights_by : Made → ℕ → ℕ → ℕ
eights_by m e p =
    cond (encrypted_of m e && is_handled (net_in m) (strategy_in m) (value_taken (history_of m) e) (decision_taken (history_of m) e) p) 1 0

unfoldable pub eights_ruled : Made → List ℕ
eights_ruled m = eights_by m 0 0 ∷ eights_by m 0 1 ∷ eights_by m 1 0 ∷ eights_by m 1 1 ∷ []

pub eights_a : eights_in host_a ∷ eights_ruled host_a ∷ [] ≡ (1 ∷ 1 ∷ 0 ∷ 0 ∷ []) ∷ (1 ∷ 1 ∷ 0 ∷ 0 ∷ []) ∷ []
unfolding opened table host_a eights_in eights_by eights_ruled is_over settled_from
eights_a = refl

pub eights_b : eights_in host_b ∷ eights_ruled host_b ∷ [] ≡ (1 ∷ 1 ∷ 0 ∷ 0 ∷ []) ∷ (1 ∷ 1 ∷ 0 ∷ 0 ∷ []) ∷ []
unfolding opened table host_b eights_in eights_by eights_ruled is_over settled_from
eights_b = refl

-- BEFORE THE END: the first calls of a host
abbrev pub first : ℕ → Made → Made
first k m = record { numbers = m.numbers; words = m.words; calls = take k m.calls }

-- after four calls of host A (Incremental) proposer 0 has been read in epoch 0, and epoch 1 is complete with the values taken
pub eights_first_a : eights_in (first 4 host_a) ∷ eights_ruled (first 4 host_a) ∷ [] ≡ (1 ∷ 0 ∷ 0 ∷ 0 ∷ []) ∷ (1 ∷ 0 ∷ 0 ∷ 0 ∷ []) ∷ []
unfolding opened table host_a eights_in eights_by eights_ruled is_over settled_from
eights_first_a = refl

unfoldable pub decrypted_at : Made → ℕ → ℕ → Option ℕ
decrypted_at m e p = plaintext_of (load_decryption 2 (epoch_words (end_of m) e) p)

pub decrypted_first_a : decrypted_at (first 4 host_a) 1 0 ∷ decrypted_at (first 4 host_a) 1 1 ∷ [] ≡ Some 13 ∷ Some 14 ∷ []
unfolding opened table host_a decrypted_at state_after_all
decrypted_first_a = refl

-- after one call of host B (AllAtEnd) proposer 0 is decided 1 and its value is here, and nothing has been read
pub eights_first_b : eights_in (first 1 host_b) ∷ eights_ruled (first 1 host_b) ∷ [] ≡ (0 ∷ 0 ∷ 0 ∷ 0 ∷ []) ∷ (0 ∷ 0 ∷ 0 ∷ 0 ∷ []) ∷ []
unfolding opened table host_b eights_in eights_by eights_ruled is_over settled_from
eights_first_b = refl
