-- The batch of an epoch, after batch.rs and `try_output_batch` of epoch_state.rs.
use Rattle.std.specs.Prelude.{ℕ, zero, suc, ◌+◌, List, [], ◌∷◌, ◌++◌, Bool, true, cond, ◌&&◌, eqb}
use Rattle.steps.specs.Numbers.{contribution_reads, batch_deserialization_failed, batch_output, entry_output}
use Rattle.steps.specs.Answers.{Tape, ask_about}
use Rattle.steps.specs.Steps.{Entry, fault, output}
use Rattle.steps.specs.Runs.{going, Run, ends, before, onward, heard}
use Rattle.steps.specs.Bits.{has_bit, with_bit, count_bits}
use Rattle.subset.specs.Words.{record_length}
use Rattle.epochwords.specs.Words.{is_complete, is_accepted, is_settled, is_open, decryption_in, plaintext_in}

-- In the words of an epoch of n proposers whose records have `size` words each
module _ (size : ℕ) where
  -- of the next m proposers, from p on, those accepted are settled
  unfoldable pub decrypted_from : ℕ → ℕ → List ℕ → Bool
  decrypted_from zero p w = true
  decrypted_from (suc m) p w =
      cond (is_accepted w p) (is_settled (decryption_in size w p)) true && decrypted_from m (p + 1) w

  -- the subset is done, and the epoch waits for no accepted contribution
  unfoldable pub is_ready_in : ℕ → List ℕ → Bool
  is_ready_in n w = is_complete w && decrypted_from n 0 w

  -- a contribution of the batch: accepted, with a plaintext
  unfoldable pub is_read : List ℕ → ℕ → Bool
  is_read w p = is_accepted w p && is_open (decryption_in size w p)

  -- whether it reads (kind 13): its bit joins the readable ones, or it is fault 5
  unfoldable pub read_at : ℕ → ℕ → List ℕ → Tape → Run (List ℕ) ℕ
  read_at p readable w tape =
      cond (is_read w p)
      (heard (ask_about tape contribution_reads p) w (λ a b tape.
      cond (eqb a 0)
      (before (fault batch_deserialization_failed p 0 ∷ []) (ends (going readable) w tape))
      (ends (going (with_bit readable p)) w tape)))
      (ends (going readable) w tape)

  -- the next m proposers, from p on
  unfoldable pub read_from : ℕ → ℕ → ℕ → List ℕ → Tape → Run (List ℕ) ℕ
  read_from zero p readable w tape = ends (going readable) w tape
  read_from (suc m) p readable w tape = onward (read_at p readable w tape) (λ readable w tape. read_from m (p + 1) readable w tape)

  -- an entry 2 (proposer, plaintext) for each readable one of the next m proposers, from p on
  unfoldable pub entries_from : ℕ → ℕ → ℕ → List ℕ → List Entry
  entries_from zero p readable w = []
  entries_from (suc m) p readable w =
      cond (has_bit readable p) (output entry_output p (plaintext_in size w p) ∷ []) [] ++ entries_from m (p + 1) readable w

  -- "1 batch (a epoch, b entries), then per entry 2 (a proposer, b plaintext), by rising proposer"
  unfoldable pub output_batch_in : ℕ → ℕ → List ℕ → Tape → Run (List ℕ) (Unit {0})
  output_batch_in n epoch w tape =
      onward (read_from n 0 0 w tape) (λ readable w tape.
      before (output batch_output epoch (count_bits n 0 readable) ∷ entries_from n 0 readable w) (ends (going tt) w tape))

-- with the engine's own records. A batch is output only of an epoch that is ready
abbrev pub is_ready : ℕ → List ℕ → Bool
is_ready n w = is_ready_in (record_length n) n w

abbrev pub output_batch : ℕ → ℕ → List ℕ → Tape → Run (List ℕ) (Unit {0})
output_batch n epoch w tape = output_batch_in (record_length n) n epoch w tape
