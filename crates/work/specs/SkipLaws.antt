-- What a skip leaves: the words of the law that proofs/Skips.antt proves.
use Rattle.std.specs.Prelude.{ℕ, ◌+◌, ◌≤◌, ◌<◌, ◌≡◌, ◌≢◌, List, length, get_or, replicate}
use Rattle.subset.specs.Words.{epoch_length}
use Rattle.state.specs.State.{header_length, nodes, ahead, current_epoch, input, epoch_at, input_at, epoch_words}

-- of a skip from state w to an epoch above the current one, which leaves v
pub record Skipped (target : ℕ) (w v : List ℕ) : Type 0 where
  pub long : length v ≡ length w
  pub epoch : current_epoch v ≡ target
  pub input : input v ≡ 0
  -- the rest of the header stays
  pub header : (i : ℕ) → i < header_length → i ≢ epoch_at → i ≢ input_at → get_or v i 0 ≡ get_or w i 0
  -- an epoch that was in the state stays as it is where it is not below the target, else nothing is left of it
  pub kept : (e : ℕ) → target ≤ e → e < current_epoch w + ahead w + 1 → epoch_words v e ≡ epoch_words w e
  pub cleared : (e : ℕ) → current_epoch w ≤ e → e < target → e < current_epoch w + ahead w + 1 → epoch_words v e ≡ replicate (epoch_length (nodes w)) 0
  -- an epoch that comes into the state has not begun
  pub vacant : (e : ℕ) → current_epoch w + ahead w + 1 ≤ e → e < target + ahead w + 1 → epoch_words v e ≡ replicate (epoch_length (nodes w)) 0
