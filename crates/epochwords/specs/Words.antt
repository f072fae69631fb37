-- The words of one epoch, as far as decryption uses them, and the range rule of all of them (docs/STATE.md).
use Rattle.std.specs.Prelude.{ℕ, zero, suc, ◌+◌, ◌^◌, ◌-◌, List, [], ◌∷◌, ◌++◌, Bool, true, cond, ◌&&◌, ◌||◌, not, get_or, set, replicate, eqb, leb, ltb}
use Rattle.steps.specs.Bits.{has_bit, with_bit}
use Rattle.steps.specs.Numbers.{handle_limit}
use Rattle.decryption.specs.declared.ThresholdDecrypt.{ThresholdDecrypt}
use Rattle.decryption.specs.Decrypt.{new}
use Rattle.subset.specs.Words.{status_vacant, status_complete, status_of, field_at, record_at, tag_complete_true, decided_at, accepted_at, accepted_of, count_of, proposal_at, value_at, arrival_at}
use Rattle.epochwords.specs.declared.SubsetHandlingStrategy.{SubsetHandlingStrategy}
use Rattle.epochwords.specs.declared.SubsetHandlingStrategy.TheVariants.{Incremental, AllAtEnd}

abbrev pub is_vacant : List ℕ → Bool
is_vacant w = eqb (status_of w) status_vacant

abbrev pub is_complete : List ℕ → Bool
is_complete w = eqb (status_of w) status_complete

-- THE ACCEPTED PROPOSERS, a word of bits
unfoldable pub is_accepted : List ℕ → ℕ → Bool
is_accepted w p = has_bit (accepted_of w) p

unfoldable pub accept : List ℕ → ℕ → List ℕ
accept w p = set w accepted_at (with_bit (accepted_of w) p)

-- THE DECRYPTION of a proposer's contribution: no entry, one that is ongoing, or one that is complete with its plaintext
pub data DecryptionState : Type 0 where
  missing : DecryptionState
  ongoing : ThresholdDecrypt → DecryptionState
  complete : ℕ → DecryptionState

-- its tag: no entry, `DecryptionState::Ongoing`, `DecryptionState::Complete`
abbrev pub entry_none : ℕ
entry_none = 0

abbrev pub entry_ongoing : ℕ
entry_ongoing = 1

abbrev pub entry_complete : ℕ
entry_complete = 2

-- what the tag means: a share or a ciphertext that comes is asked about outside
unfoldable pub asks : ℕ → Bool
asks tag = eqb tag entry_none || eqb tag entry_ongoing

-- the epoch no longer waits for it
unfoldable pub is_settled : ℕ → Bool
is_settled tag = eqb tag entry_complete

-- it has a plaintext, and a batch asks whether that reads (kind 13)
unfoldable pub is_open : ℕ → Bool
is_open tag = eqb tag entry_complete

-- its words of a record
abbrev pub decryption_field : ℕ
decryption_field = 2

abbrev pub plaintext_field : ℕ
plaintext_field = 3

-- tag and plaintext where a record has `size` words
abbrev pub decryption_in : ℕ → List ℕ → ℕ → ℕ
decryption_in size w p = get_or w (field_at size p decryption_field) 0

abbrev pub plaintext_in : ℕ → List ℕ → ℕ → ℕ
plaintext_in size w p = get_or w (field_at size p plaintext_field) 0

abbrev pub decryption_at : ℕ → ℕ → ℕ
decryption_at n p = record_at n p decryption_field

abbrev pub plaintext_at : ℕ → ℕ → ℕ
plaintext_at n p = record_at n p plaintext_field

abbrev pub ciphertext_at : ℕ → ℕ → ℕ
ciphertext_at n p = record_at n p 4

abbrev pub had_input_at : ℕ → ℕ → ℕ
had_input_at n p = record_at n p 5

abbrev pub terminated_at : ℕ → ℕ → ℕ
terminated_at n p = record_at n p 6

abbrev pub share_at : ℕ → ℕ → ℕ → ℕ
share_at n p sender = record_at n p (8 + sender)

-- the shares of the next m senders, from sender i on
unfoldable pub shares_from : ℕ → ℕ → ℕ → ℕ → List ℕ → List ℕ
shares_from n p zero i w = []
shares_from n p (suc m) i w = get_or w (share_at n p i) 0 ∷ shares_from n p m (i + 1) w

-- an instance has room for 16 senders
unfoldable pub load_instance : ℕ → List ℕ → ℕ → ThresholdDecrypt
load_instance n w p =
    record {
      ciphertext = get_or w (ciphertext_at n p) 0;
      shares = shares_from n p n 0 w ++ replicate (16 - n) 0;
      had_input = not (eqb (get_or w (had_input_at n p) 0) 0);
      terminated = not (eqb (get_or w (terminated_at n p) 0) 0);
    }

-- the instance that a share or a ciphertext comes to: a new one where there is no entry
unfoldable pub load_entry : ℕ → List ℕ → ℕ → ThresholdDecrypt
load_entry n w p = cond (eqb (get_or w (decryption_at n p) 0) entry_none) new (load_instance n w p)

unfoldable pub load_decryption : ℕ → List ℕ → ℕ → DecryptionState
load_decryption n w p =
    cond (eqb (get_or w (decryption_at n p) 0) entry_none) missing
    (cond (eqb (get_or w (decryption_at n p) 0) entry_ongoing) (ongoing (load_instance n w p)) (complete (get_or w (plaintext_at n p) 0)))

-- the words of an entry: decryption, plaintext, ciphertext, had input, terminated, and the shares
unfoldable pub set_shares : ℕ → ℕ → ℕ → ℕ → List ℕ → List ℕ → List ℕ
set_shares n p zero i s w = w
set_shares n p (suc m) i s w = set_shares n p m (i + 1) s (set w (share_at n p i) (get_or s i 0))

abbrev pub flag : Bool → ℕ
flag b = cond b 1 0

unfoldable pub store_entry : ℕ → List ℕ → ℕ → ℕ → ℕ → ThresholdDecrypt → List ℕ
store_entry n w p tag plaintext td =
    set_shares n p n 0 td.shares
    (set (set (set (set (set w
    (decryption_at n p) tag)
    (plaintext_at n p) plaintext)
    (ciphertext_at n p) td.ciphertext)
    (had_input_at n p) (flag td.had_input))
    (terminated_at n p) (flag td.terminated))

unfoldable pub store_decryption : ℕ → List ℕ → ℕ → DecryptionState → List ℕ
store_decryption n w p missing = store_entry n w p entry_none 0 new
store_decryption n w p (ongoing td) = store_entry n w p entry_ongoing 0 td
store_decryption n w p (complete plaintext) = store_entry n w p entry_complete plaintext new

-- THE RANGE RULE of an epoch's words. A handle, or 0 for none, is below 2^32
abbrev pub maybe_handle : ℕ → Bool
maybe_handle x = ltb x (handle_limit + 1)

-- the next m words, from word i on, are each so
unfoldable pub all_from : (ℕ → Bool) → ℕ → ℕ → List ℕ → Bool
all_from is zero i w = true
all_from is (suc m) i w = is (get_or w i 0) && all_from is m (i + 1) w

unfoldable pub record_in_range : ℕ → List ℕ → ℕ → Bool
record_in_range n w p =
    leb (get_or w (proposal_at n p) 0) tag_complete_true
    && maybe_handle (get_or w (value_at n p) 0)
    && leb (get_or w (decryption_at n p) 0) entry_complete
    && maybe_handle (get_or w (plaintext_at n p) 0)
    && maybe_handle (get_or w (ciphertext_at n p) 0)
    && leb (get_or w (had_input_at n p) 0) 1
    && leb (get_or w (terminated_at n p) 0) 1
    && ltb (get_or w (arrival_at n p) 0) n
    && all_from maybe_handle n (share_at n p 0) w

-- those of its words with smaller limits, for the code, which tests all words of the records together for 2^32 (proofs/RangeCode: both are the rule)
unfoldable pub small_in_range : ℕ → List ℕ → ℕ → Bool
small_in_range n w p =
    leb (get_or w (proposal_at n p) 0) tag_complete_true
    && leb (get_or w (decryption_at n p) 0) entry_complete
    && leb (get_or w (had_input_at n p) 0) 1
    && leb (get_or w (terminated_at n p) 0) 1
    && ltb (get_or w (arrival_at n p) 0) n

unfoldable pub records_in_range : ℕ → ℕ → ℕ → List ℕ → Bool
records_in_range n zero p w = true
records_in_range n (suc m) p w = record_in_range n w p && records_in_range n m (p + 1) w

-- how many contributions are kept between calls at most: "AllAtEnd keeps contributions in arrival order until Done", Incremental none
unfoldable pub most_kept : SubsetHandlingStrategy → ℕ → ℕ
most_kept Incremental n = 0
most_kept AllAtEnd n = n

unfoldable pub epoch_in_range : SubsetHandlingStrategy → ℕ → List ℕ → Bool
epoch_in_range strategy n w =
    leb (status_of w) status_complete
    && leb (get_or w decided_at 0) 1
    && ltb (accepted_of w) (2 ^ n)
    && leb (count_of w) (most_kept strategy n)
    && all_from (λ x. eqb x 0) 12 4 w
    && records_in_range n n 0 w
