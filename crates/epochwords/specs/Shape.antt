-- What the code requires of an epoch's words, which the range rule has (`Words.epoch_in_range`), and what its enum of an entry stands for.
use Rattle.std.specs.Prelude.{ℕ, ◌+◌, ◌*◌, ◌<◌, ◌≤◌, List, length, Option, Some, None}
use Rattle.steps.specs.Numbers.{node_limit}
-- the words of an epoch of n nodes
pub use Rattle.subset.specs.Outcomes.{EpochWords}
use Rattle.subset.specs.Words.{count_of, contributor, records_at}
use Rattle.epochwords.specs.declared.entry.DecryptionState as declared
use Rattle.epochwords.specs.declared.entry.DecryptionState.TheVariants.{Ongoing, Complete}
use Rattle.epochwords.specs.Words.{plaintext_field, DecryptionState, missing, ongoing, complete}

-- the list of contributions has at most n, each of one of the n proposers
pub record Listed (n : ℕ) (w : List ℕ) : Type 0 where
  pub count : count_of w ≤ n
  pub who : (i : ℕ) → i < n → contributor n w i < n

-- words with n records of `size` words each, which reach as far as the plaintext
pub record Records (size n : ℕ) (w : List ℕ) : Type 0 where
  pub few : n ≤ node_limit
  pub fields : plaintext_field + 1 ≤ size
  pub long : records_at + n * size ≤ length w

-- what the code's enum of an entry stands for
abbrev pub decryption_of : Option declared.DecryptionState → DecryptionState
decryption_of None = missing
decryption_of (Some (Ongoing td)) = ongoing td
decryption_of (Some (Complete plaintext)) = complete plaintext
