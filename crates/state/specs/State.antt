-- The words of the engine's state (docs/STATE.md): a header of 16 words, and look-ahead + 1 epochs.
use Rattle.std.specs.Prelude.{ℕ, zero, suc, ◌+◌, ◌*◌, ◌-◌, ◌%◌, List, [], ◌∷◌, ◌++◌, Bool, true, cond, ◌&&◌, not, length, get_or, take, drop, replicate, eqb, leb, ltb}
use Rattle.steps.specs.Numbers.{last_epoch, fault_limit, node_limit, ahead_limit}
use Rattle.network.specs.declared.network_info.NetworkInfo.{NetworkInfo}
use Rattle.steps.specs.Table.{within}
use Rattle.subset.specs.Words.{epoch_length}
use Rattle.epochwords.specs.Words.{all_from, epoch_in_range}
use Rattle.epochwords.specs.declared.SubsetHandlingStrategy.{SubsetHandlingStrategy}
use Rattle.epochwords.specs.declared.SubsetHandlingStrategy.TheVariants.{Incremental, AllAtEnd}
use Rattle.state.specs.Schedule.{schedule_of, schedule_ok, used_first, used_second, use_on_epoch}

abbrev pub header_length : ℕ
header_length = 16

-- the header's words
abbrev pub profile_at : ℕ
profile_at = 0

abbrev pub nodes_at : ℕ
nodes_at = 1

abbrev pub faulty_at : ℕ
faulty_at = 2

abbrev pub ahead_at : ℕ
ahead_at = 3

abbrev pub own_at : ℕ
own_at = 4

abbrev pub key_at : ℕ
key_at = 5

abbrev pub strategy_at : ℕ
strategy_at = 6

abbrev pub schedule_at : ℕ
schedule_at = 7

abbrev pub first_number_at : ℕ
first_number_at = 8

abbrev pub second_number_at : ℕ
second_number_at = 9

abbrev pub epoch_at : ℕ
epoch_at = 10

abbrev pub input_at : ℕ
input_at = 11

abbrev pub faults_at : ℕ
faults_at = 12

-- the header's words from here on are 0
abbrev pub vacant_at : ℕ
vacant_at = 13

-- where the epochs begin. The laws know no more of it than that the header ends at or before it (`header_first` of proofs/Window.antt)
unfoldable pub epochs_at : ℕ → ℕ
epochs_at n = header_length

-- "state length is […] 16 + (F+1) × (16 + N × (8+N)) words"
abbrev pub state_length : ℕ → ℕ → ℕ
state_length n ahead = epochs_at n + (ahead + 1) * epoch_length n

-- "4: scratch shorter than the state": how many words of it a call wants. The laws know the number in one place (`scratch_is` of proofs/Refusals.antt)
unfoldable pub scratch_length : ℕ → ℕ → ℕ
scratch_length n ahead = state_length n ahead

-- tests of which each must hold
unfoldable pub all_hold : List Bool → Bool
all_hold [] = true
all_hold (t ∷ ts) = t && all_hold ts

module _ (w : List ℕ) where
  abbrev pub profile : ℕ
  profile = get_or w profile_at 0

  abbrev pub nodes : ℕ
  nodes = get_or w nodes_at 0

  abbrev pub faulty : ℕ
  faulty = get_or w faulty_at 0

  abbrev pub ahead : ℕ
  ahead = get_or w ahead_at 0

  abbrev pub own : ℕ
  own = get_or w own_at 0

  abbrev pub key : ℕ
  key = get_or w key_at 0

  abbrev pub strategy : ℕ
  strategy = get_or w strategy_at 0

  abbrev pub schedule : ℕ
  schedule = get_or w schedule_at 0

  abbrev pub first_number : ℕ
  first_number = get_or w first_number_at 0

  abbrev pub second_number : ℕ
  second_number = get_or w second_number_at 0

  abbrev pub current_epoch : ℕ
  current_epoch = get_or w epoch_at 0

  -- has input: 0 or 1
  abbrev pub input : ℕ
  input = get_or w input_at 0

  abbrev pub fault_count : ℕ
  fault_count = get_or w faults_at 0

  abbrev pub scratch_of : ℕ
  scratch_of = scratch_length nodes ahead

  unfoldable pub net_of : NetworkInfo
  net_of =
      record {
        num_nodes = nodes;
        num_faulty = faulty;
        our_id = own;
        has_key = not (eqb key 0);
      }

  -- "strategy (0 Incremental, 1 AllAtEnd)"
  unfoldable pub strategy_of : SubsetHandlingStrategy
  strategy_of = cond (eqb strategy 0) Incremental AllAtEnd

  -- whether contributions in this epoch are encrypted
  unfoldable pub encrypted_in : ℕ → Bool
  encrypted_in epoch = use_on_epoch (schedule_of schedule first_number second_number) epoch

  -- epoch e lives at place e mod (F+1)
  unfoldable pub place_of : ℕ → ℕ
  place_of epoch = epochs_at nodes + epoch % (ahead + 1) * epoch_length nodes

  unfoldable pub epoch_words : ℕ → List ℕ
  epoch_words epoch = take (epoch_length nodes) (drop (place_of epoch) w)

  unfoldable pub with_epoch : ℕ → List ℕ → List ℕ
  with_epoch epoch x = take (place_of epoch) w ++ (x ++ drop (place_of epoch + epoch_length nodes) w)

  -- no epoch lives at the place of this one any more
  unfoldable pub without_epoch : ℕ → List ℕ
  without_epoch epoch = with_epoch epoch (replicate (epoch_length nodes) 0)

  -- REPLY 3's RULE: each field in its range, whatever the state's past. Test i is that of word i, the last that of all words behind
  unfoldable pub header_tests : List Bool
  header_tests =
      eqb profile 1
      ∷ within 1 node_limit nodes
      ∷ ltb (3 * faulty) nodes
      ∷ leb ahead ahead_limit
      ∷ leb own nodes
      ∷ leb key 1
      ∷ leb strategy 1
      ∷ schedule_ok schedule first_number second_number
      ∷ eqb first_number (used_first schedule first_number)
      ∷ eqb second_number (used_second schedule second_number)
      ∷ leb current_epoch (last_epoch + ahead + 1)
      ∷ leb input 1
      ∷ leb fault_count fault_limit
      ∷ all_from (λ x. eqb x 0) (header_length - vacant_at) vacant_at w
      ∷ []

  abbrev pub header_in_range : Bool
  header_in_range = all_hold header_tests

  -- the next m epochs, from the word at on
  unfoldable pub epochs_in_range : ℕ → ℕ → Bool
  epochs_in_range zero at = true
  epochs_in_range (suc m) at = epoch_in_range strategy_of nodes (take (epoch_length nodes) (drop at w)) && epochs_in_range m (at + epoch_length nodes)

  unfoldable pub state_ok : Bool
  state_ok = header_in_range && eqb (length w) (state_length nodes ahead) && epochs_in_range (ahead + 1) (epochs_at nodes)
