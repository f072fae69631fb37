-- What the paper's rule (Demand2.antt) compares an epoch's output with, told from a run's history.
use Rattle.std.specs.Prelude.{ℕ, ◌+◌, List, [], ◌∷◌, ◌++◌, Bool, cond, ◌&&◌, eqb}
use Rattle.std.specs.Prelude.{Option, None, Some}
use Rattle.network.specs.declared.network_info.NetworkInfo.{NetworkInfo}
use Rattle.steps.specs.Answers.{Rec}
use Rattle.steps.specs.Taken.{is_there, is_true}
use Rattle.steps.specs.Times.{times_asked}
use Rattle.subset.specs.Rule.{is_over}
use Rattle.epochwords.specs.declared.SubsetHandlingStrategy.{SubsetHandlingStrategy}
use Rattle.epochwords.specs.Words.{DecryptionState, missing, ongoing, complete}
use Rattle.epoch.specs.Epoch.{handles_now}
use Rattle.steps.specs.Batches.{BatchEntry}
use Rattle.agreement.specs.History.{Event, plaintext, Handed}

-- a proposer and its plaintext, if it has one
pub record Paired : Type 0 where
  pub proposer : ℕ
  pub plaintext : Option ℕ

abbrev pub paired : ℕ → Option ℕ → Paired
paired p plaintext = record { proposer = p; plaintext = plaintext }

-- the pairs of a batch's entries
unfoldable pub pairs_in : List BatchEntry → List Paired
pairs_in [] = []
pairs_in (x ∷ xs) = paired x.proposer (Some x.plaintext) ∷ pairs_in xs

-- for each 13 that reads (a is not 0) its proposer, with the plaintext that `text` gives
unfoldable pub pairs_read : (ℕ → Option ℕ) → List Rec → List Paired
pairs_read text [] = []
pairs_read text (r ∷ rs) = cond (eqb r.a 0) [] (paired r.b (text r.b) ∷ []) ++ pairs_read text rs

-- the pairs that a batch's 13s and the history give it
unfoldable pub pairs_given : (ℕ → Bool) → List Event → Handed → List Paired
pairs_given encrypted h x = pairs_read (plaintext encrypted h x.batch.epoch) x.thirteens

-- the plaintext in a proposer's decryption entry
unfoldable pub plaintext_of : DecryptionState → Option ℕ
plaintext_of missing = None
plaintext_of (ongoing td) = None
plaintext_of (complete x) = Some x

-- how many answers of this kind about p the calls for epoch e have, all together
unfoldable pub times_asked_in : ℕ → List Event → ℕ → ℕ → ℕ
times_asked_in kind [] e p = 0
times_asked_in kind (x ∷ xs) e p = cond (eqb x.epoch e) (times_asked kind p x.answers) 0 + times_asked_in kind xs e p

-- whether p's contribution has been handled: it is decided 1 and its value is here. "AllAtEnd keeps contributions […] until Done"
unfoldable pub is_handled : NetworkInfo → SubsetHandlingStrategy → (ℕ → Option ℕ) → (ℕ → Option ℕ) → ℕ → Bool
is_handled net strategy value decision p = handles_now strategy (is_over net value decision) && (is_true (decision p) && is_there (value p))
