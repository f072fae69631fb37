-- The engine's runs over its state words, after honey_badger.rs: a definition for each function, in its name.
use Rattle.std.specs.Prelude.{ℕ, zero, suc, ◌+◌, List, [], ◌∷◌, Bool, true, false, cond, ◌||◌, not, set, eqb, leb, ltb}
use Rattle.steps.specs.Numbers.{instances_built, unexpected_hb_message_epoch, create_subset}
use Rattle.network.specs.Network.{is_validator}
use Rattle.steps.specs.Answers.{Tape, ask}
use Rattle.steps.specs.Steps.{fault}
use Rattle.steps.specs.Runs.{going, failed, Run, ends, before, onward, heard, inside}
use Rattle.epoch.specs.declared.MessageContent.{MessageContent}
use Rattle.epochwords.specs.Words.{is_vacant}
use Rattle.epoch.specs.Epoch.{new_epoch, received_proposals as received_in_epoch, propose as propose_in_epoch, handle_message_content}
use Rattle.epochwords.specs.Batch.{is_ready, output_batch}
use Rattle.state.specs.State.{nodes, ahead, current_epoch, input, epoch_at, input_at, net_of, strategy_of, encrypted_in, epoch_words, with_epoch, without_epoch}

-- `update_epoch`: the finished epoch is cleared
unfoldable pub update_epoch : List ℕ → List ℕ
update_epoch w = set (set (without_epoch w (current_epoch w)) epoch_at (current_epoch w + 1)) input_at 0

-- `epoch_state_mut`: the epoch's instances are built where there are none; 20 `CreateSubset`
unfoldable pub epoch_state_mut : ℕ → List ℕ → Tape → Run (List ℕ) (Unit {0})
epoch_state_mut epoch w p =
    cond (is_vacant (epoch_words w epoch))
    (heard (ask p instances_built) w (λ a b q.
    cond (eqb a 0) (ends (failed create_subset) w q) (ends (going tt) (with_epoch w epoch (new_epoch (nodes w))) q)))
    (ends (going tt) w p)

-- a call of one epoch, on its words
unfoldable pub in_epoch : ℕ → (List ℕ → Tape → Run (List ℕ) (Unit {0})) → List ℕ → Tape → Run (List ℕ) (Unit {0})
in_epoch epoch call w p = inside (with_epoch w epoch) (call (epoch_words w epoch) p)

-- `try_output_batches`: batches go out from the current epoch on, as long as the next one is ready, at most m
unfoldable pub try_output_batches : ℕ → List ℕ → Tape → Run (List ℕ) (Unit {0})
try_output_batches zero w p = ends (going tt) w p
try_output_batches (suc m) w p =
    elim (is_ready (nodes w) (epoch_words w (current_epoch w))) [
      | true ↦ onward (in_epoch (current_epoch w) (output_batch (nodes w) (current_epoch w)) w p) (λ _ w q. try_output_batches m (update_epoch w) q)
      | false ↦ ends (going tt) w p
    ]

-- the epochs that live at one time are look-ahead + 1, so that no call hands out more batches
abbrev pub output_batches : List ℕ → Tape → Run (List ℕ) (Unit {0})
output_batches w p = try_output_batches (ahead w + 1) w p

-- `propose`. An observer's asks nothing and changes nothing. has_input becomes true before anything can fail
unfoldable pub propose : List ℕ → Tape → Run (List ℕ) (Unit {0})
propose w p =
    cond (is_validator (net_of w))
    (onward (epoch_state_mut (current_epoch w) (set w input_at 1) p) (λ _ w q.
    onward (in_epoch (current_epoch w) (propose_in_epoch (net_of w) (strategy_of w) (encrypted_in w (current_epoch w))) w q) (λ _ w q.
    output_batches w q)))
    (ends (going tt) w p)

-- `handle_message`, from a sender that is a node
unfoldable pub handle_message : ℕ → ℕ → ℕ → MessageContent → List ℕ → Tape → Run (List ℕ) (Unit {0})
handle_message sender epoch proposer content w p =
    -- beyond the look-ahead: fault 1
    cond (ltb (current_epoch w + ahead w) epoch) (before (fault unexpected_hb_message_epoch sender 0 ∷ []) (ends (going tt) w p))
    -- late: discarded
    (cond (ltb epoch (current_epoch w)) (ends (going tt) w p)
    (onward (epoch_state_mut epoch w p) (λ _ w q.
    onward (in_epoch epoch (handle_message_content (net_of w) (strategy_of w) (encrypted_in w epoch) sender proposer content) w q) (λ _ w q.
    output_batches w q))))

-- the next m epochs, from this one on, are cleared where they are below the target
unfoldable pub clear_below : ℕ → ℕ → ℕ → List ℕ → List ℕ
clear_below target zero epoch w = w
clear_below target (suc m) epoch w = clear_below target m (epoch + 1) (cond (ltb epoch target) (without_epoch w epoch) w)

-- `skip_to_epoch`, without counting epochs one by one. "A target at or below the current epoch changes nothing." "Skip hands out no batch."
unfoldable pub skip_to_epoch : ℕ → List ℕ → List ℕ
skip_to_epoch target w =
    cond (leb target (current_epoch w)) w
    (set (set (clear_below target (ahead w + 1) (current_epoch w) w) epoch_at target) input_at 0)

-- `has_input`
unfoldable pub has_input : List ℕ → Bool
has_input w = not (is_validator (net_of w)) || not (eqb (input w) 0)

-- `received_proposals`
unfoldable pub received_proposals : List ℕ → ℕ
received_proposals w = received_in_epoch (nodes w) (epoch_words w (current_epoch w))
