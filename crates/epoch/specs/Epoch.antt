-- An epoch over its words, after epoch_state.rs: a definition for each function, in its name.
use Rattle.std.specs.Prelude.{ℕ, zero, suc, ◌+◌, ◌-◌, List, [], ◌∷◌, ◌++◌, Bool, true, cond, ◌&&◌, not, get_or, set, eqb}
use Rattle.std.specs.Prelude.{Option, None, Some}
use Rattle.steps.specs.Numbers.{proposal_serialised, ciphertext_reads, unexpected_decryption_share, deserialize_ciphertext, invalid_ciphertext, propose_bincode, input_subset, handle_subset_message}
use Rattle.network.specs.declared.network_info.NetworkInfo.{NetworkInfo}
use Rattle.steps.specs.Answers.{Tape, ask, ask_about}
use Rattle.steps.specs.Steps.{Entry, fault}
use Rattle.steps.specs.Runs.{Verdict, going, refused, failed, Run, ends, before, onward, heard, inside}
use Rattle.steps.specs.Bits.{count_bits}
use Rattle.decryption.specs.declared.ThresholdDecrypt.{ThresholdDecrypt}
use Rattle.decryption.specs.Decrypt.{set_ciphertext, start_decryption, is_sender, handle_message as handle_share}
use Rattle.subset.specs.Words.{status_at, decided_at, count_at, status_complete, accepted_of, count_of, tag_ongoing, proposal_at, value_at, contributor, drop_from}
-- `EpochState::new`
unfoldable pub use Rattle.subset.specs.Words.{new_epoch}
use Rattle.subset.specs.Subset.{propose as propose_subset, handle_message as handle_subset, received_proposals as received_by_subset}
use Rattle.epochwords.specs.declared.SubsetHandlingStrategy.{SubsetHandlingStrategy}
use Rattle.epochwords.specs.declared.SubsetHandlingStrategy.TheVariants.{Incremental, AllAtEnd}
use Rattle.epoch.specs.declared.MessageContent.{MessageContent}
use Rattle.epoch.specs.declared.MessageContent.TheVariants.{Subset, DecryptionShare}
use Rattle.epochwords.specs.Words.{is_vacant, is_complete, is_accepted, accept, DecryptionState, missing, ongoing, complete, asks, decryption_at, load_entry, load_decryption, store_decryption}

-- "Received proposals are those in HasValue or Complete with 1; after Done, the accepted ones."
unfoldable pub received_proposals : ℕ → List ℕ → ℕ
received_proposals n w =
    cond (is_vacant w) 0
    (cond (is_complete w) (count_bits n 0 (accepted_of w)) (received_by_subset n w))

-- the list of contributions cut to its first k
unfoldable pub first_contributions : ℕ → ℕ → List ℕ → List ℕ
first_contributions n k w = set (drop_from n (count_of w - k) k w) count_at k

-- the entry after a call of threshold decryption: a plaintext completes it; after a failure it is as the call left it
unfoldable pub entry_after : Verdict (Option ℕ) → ThresholdDecrypt → DecryptionState
entry_after (going None) td = ongoing td
entry_after (going (Some plaintext)) td = complete plaintext
entry_after refused td = ongoing td
entry_after (failed error) td = ongoing td

-- a fault 2 for each of the next m senders, from sender i on, that has sent a share
unfoldable pub unexpected_from : ℕ → ℕ → ThresholdDecrypt → List Entry
unexpected_from zero i td = []
unexpected_from (suc m) i td = cond (is_sender td i) (fault unexpected_decryption_share i 0 ∷ []) [] ++ unexpected_from m (i + 1) td

unfoldable pub unexpected_shares : ℕ → DecryptionState → List Entry
unexpected_shares n missing = []
unexpected_shares n (ongoing td) = unexpected_from n 0 td
unexpected_shares n (complete plaintext) = []

-- Incremental handles contributions as they come, AllAtEnd all of them when the subset is done
unfoldable pub handles_now : SubsetHandlingStrategy → Bool → Bool
handles_now Incremental done = true
handles_now AllAtEnd done = done

-- `SubsetState::Complete` drops the subset
unfoldable pub subset_complete : List ℕ → List ℕ
subset_complete w = set (set w status_at status_complete) decided_at 0

unfoldable pub proposal_dropped : ℕ → List ℕ → ℕ → List ℕ
proposal_dropped n w p = set (set w (proposal_at n p) tag_ongoing) (value_at n p) 0

module _ (net : NetworkInfo) where
  -- `process_decryption`: the step's messages and faults are in the run already
  unfoldable pub process_decryption : ℕ → List ℕ → Run ThresholdDecrypt (Option ℕ) → Run (List ℕ) (Unit {0})
  process_decryption p w r =
      onward
      (record {
        state = store_decryption net.num_nodes w p (entry_after r.verdict r.state);
        verdict = r.verdict;
        tape = r.tape;
        log = r.log;
      })
      (λ _ w tape. ends (going tt) w tape)

  -- the entry of proposer p is called, unless it asks nothing any more
  unfoldable pub call_entry : ℕ → (ThresholdDecrypt → Tape → Run ThresholdDecrypt (Option ℕ)) → List ℕ → Tape → Run (List ℕ) (Unit {0})
  call_entry p call w tape =
      cond (asks (get_or w (decryption_at net.num_nodes p) 0))
      (process_decryption p w (call (load_entry net.num_nodes w p) tape))
      (ends (going tt) w tape)

  -- `DecryptionState::set_ciphertext`; one that does not verify is fault 4
  unfoldable pub input_ciphertext : ℕ → ℕ → ThresholdDecrypt → Tape → Run ThresholdDecrypt (Option ℕ)
  input_ciphertext p value td tape =
      onward (set_ciphertext p value td tape) (λ verified td tape.
      cond verified (start_decryption net p td tape) (before (fault invalid_ciphertext p 0 ∷ []) (ends (going None) td tape)))

  -- a ciphertext that does not read is fault 3, and there is no entry for it
  unfoldable pub send_decryption_share : ℕ → ℕ → List ℕ → Tape → Run (List ℕ) (Unit {0})
  send_decryption_share p value w tape =
      heard (ask_about tape ciphertext_reads p) w (λ a b tape.
      cond (eqb a 0)
      (before (fault deserialize_ciphertext p 0 ∷ []) (ends (going tt) w tape))
      (call_entry p (input_ciphertext p value) w tape))

  -- a share counts while the subset is not done, and after that for an accepted proposer only; else it is fault 2 of its sender
  unfoldable pub handle_decryption_share : ℕ → ℕ → ℕ → List ℕ → Tape → Run (List ℕ) (Unit {0})
  handle_decryption_share sender p share w tape =
      cond (is_complete w && not (is_accepted w p))
      (before (fault unexpected_decryption_share sender 0 ∷ []) (ends (going tt) w tape))
      (call_entry p (handle_share net p sender share) w tape)

  -- proposer p's end of `Done`: its proposal is dropped, and "shares for non-accepted proposers become fault 2"
  unfoldable pub finish_at : ℕ → List ℕ → Tape → Run (List ℕ) (Unit {0})
  finish_at p w tape =
      cond (is_accepted w p)
      (ends (going tt) (proposal_dropped net.num_nodes w p) tape)
      (before (unexpected_shares net.num_nodes (load_decryption net.num_nodes w p))
      (ends (going tt) (store_decryption net.num_nodes (proposal_dropped net.num_nodes w p) p missing) tape))

  -- the next m proposers, from p on: "by proposer then sender"
  unfoldable pub finish_from : ℕ → ℕ → List ℕ → Tape → Run (List ℕ) (Unit {0})
  finish_from zero p w tape = ends (going tt) w tape
  finish_from (suc m) p w tape = onward (finish_at p w tape) (λ _ w tape. finish_from m (p + 1) w tape)

  module _ (strategy : SubsetHandlingStrategy) (encrypted : Bool) where
    -- a contribution is accepted once its decryption share was sent without failing; in a plain epoch it is its own plaintext
    unfoldable pub handle_contribution : ℕ → ℕ → List ℕ → Tape → Run (List ℕ) (Unit {0})
    handle_contribution p value w tape =
        onward
        (cond encrypted
        (send_decryption_share p value w tape)
        (ends (going tt) (store_decryption net.num_nodes w p (complete value)) tape))
        (λ _ w tape. ends (going tt) (accept w p) tape)

    -- the next m contributions, from the i-th on, in the order of their arrival
    unfoldable pub handle_from : ℕ → ℕ → List ℕ → Tape → Run (List ℕ) (Unit {0})
    handle_from zero i w tape = ends (going tt) w tape
    handle_from (suc m) i w tape =
        onward
        (handle_contribution (contributor net.num_nodes w i)
        (get_or w (value_at net.num_nodes (contributor net.num_nodes w i)) 0) w tape)
        (λ _ w tape. handle_from m (i + 1) w tape)

    -- the list is taken out before its contributions are handled: none is left, even after a failure
    unfoldable pub handle_contributions : List ℕ → Tape → Run (List ℕ) (Unit {0})
    handle_contributions w tape =
        inside (first_contributions net.num_nodes 0) (handle_from (count_of w) 0 w tape)

    unfoldable pub process_subset : Bool → List ℕ → Tape → Run (List ℕ) (Unit {0})
    process_subset done w tape =
        onward
        (cond (handles_now strategy done) (handle_contributions w tape) (ends (going tt) w tape))
        (λ _ w tape. cond done (finish_from net.num_nodes 0 (subset_complete w) tape) (ends (going tt) w tape))

    -- a failed subset call hands up nothing: its contributions, those past the first k, are lost with its step
    unfoldable pub handed_up : ℕ → Verdict Bool → Run (List ℕ) Bool → Run (List ℕ) Bool
    handed_up k (going done) r = r
    handed_up k refused r = inside (first_contributions net.num_nodes k) r
    handed_up k (failed error) r = inside (first_contributions net.num_nodes k) r

    -- a call of the subset, unless it has completed
    unfoldable pub call_subset : (List ℕ → Tape → Run (List ℕ) Bool) → List ℕ → Tape → Run (List ℕ) (Unit {0})
    call_subset call w tape =
        cond (is_complete w)
        (ends (going tt) w tape)
        (onward (handed_up (count_of w) (call w tape).verdict (call w tape)) process_subset)

    -- 21 `ProposeBincode`, 22 `InputSubset`
    unfoldable pub propose : List ℕ → Tape → Run (List ℕ) (Unit {0})
    propose w tape =
        heard (ask tape proposal_serialised) w (λ a b tape.
        cond (eqb a 0) (ends (failed propose_bincode) w tape) (call_subset (propose_subset net input_subset) w tape))

    -- 23 `HandleSubsetMessage`
    unfoldable pub handle_message_content : ℕ → ℕ → MessageContent → List ℕ → Tape → Run (List ℕ) (Unit {0})
    handle_message_content sender p (Subset content) w tape = call_subset (handle_subset net handle_subset_message content p) w tape
    handle_message_content sender p (DecryptionShare share) w tape = handle_decryption_share sender p share w tape
