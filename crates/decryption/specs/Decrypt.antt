-- Threshold decryption, after threshold_decrypt.rs: a definition for each function, in its name.
use Rattle.std.specs.Prelude.{ℕ, zero, suc, ◌+◌, List, [], ◌∷◌, Bool, true, false, cond, ◌&&◌, not, get_or, set, replicate, leb, eqb}
use Rattle.std.specs.Prelude.{Option, None, Some}
use Rattle.steps.specs.Numbers.{ciphertext_verifies, share_verifies, own_decryption_share, contribution_decrypted, share_content, multiple_decryption_shares, unverified_decryption_share_sender, decryption, multiple_inputs, node_limit}
use Rattle.network.specs.declared.network_info.NetworkInfo.{NetworkInfo}
use Rattle.network.specs.Network.{is_validator}
use Rattle.steps.specs.Answers.{Tape, ask, ask_about}
use Rattle.steps.specs.Steps.{message, fault}
use Rattle.steps.specs.Runs.{going, failed, Run, ends, before, onward, heard}
use Rattle.decryption.specs.declared.ThresholdDecrypt.{ThresholdDecrypt}

-- an instance that waits for shares and a ciphertext
abbrev pub new : ThresholdDecrypt
new = record { ciphertext = 0; shares = replicate node_limit 0; had_input = false; terminated = false }

-- an instance with one field changed
abbrev pub with_ciphertext : ThresholdDecrypt → ℕ → ThresholdDecrypt
with_ciphertext td c = record { ciphertext = c; shares = td.shares; had_input = td.had_input; terminated = td.terminated }

abbrev pub with_shares : ThresholdDecrypt → List ℕ → ThresholdDecrypt
with_shares td s = record { ciphertext = td.ciphertext; shares = s; had_input = td.had_input; terminated = td.terminated }

abbrev pub with_input : ThresholdDecrypt → ThresholdDecrypt
with_input td = record { ciphertext = td.ciphertext; shares = td.shares; had_input = true; terminated = td.terminated }

abbrev pub with_end : ThresholdDecrypt → ThresholdDecrypt
with_end td = record { ciphertext = td.ciphertext; shares = td.shares; had_input = td.had_input; terminated = true }

-- whether a handle is there; 0 stands for none
abbrev pub is_some : ℕ → Bool
is_some h = not (eqb h 0)

-- whether a node is among the senders of shares
abbrev pub is_sender : ThresholdDecrypt → ℕ → Bool
is_sender td sender = is_some (get_or td.shares sender 0)

-- the shares of the next n senders, from sender i on
unfoldable pub count_from : ℕ → ℕ → List ℕ → ℕ
count_from zero i s = 0
count_from (suc n) i s = cond (eqb (get_or s i 0) 0) 0 1 + count_from n (i + 1) s

abbrev pub count_shares : List ℕ → ℕ
count_shares s = count_from node_limit 0 s

-- true where the ciphertext is set, false where it does not verify. A second one fails before it is verified; 25 `MultipleInputs`
unfoldable pub set_ciphertext : ℕ → ℕ → ThresholdDecrypt → Tape → Run ThresholdDecrypt Bool
set_ciphertext proposer ciphertext td p =
    cond (is_some td.ciphertext) (ends (failed multiple_inputs) td p)
    (heard (ask_about p ciphertext_verifies proposer) td (λ a b q.
    cond (eqb a 0) (ends (going false) td q) (ends (going true) (with_ciphertext td ciphertext) q)))

-- true where the share of this sender is valid, or where there is no ciphertext yet to ask about it
unfoldable pub is_share_valid : ℕ → ThresholdDecrypt → Tape → Run ThresholdDecrypt Bool
is_share_valid sender td p =
    cond (eqb td.ciphertext 0) (ends (going true) td p)
    (heard (ask_about p share_verifies sender) td (λ a b q. ends (going (not (eqb a 0))) td q))

-- the share of one sender, if there is one, is removed with fault 7 if it is invalid
unfoldable pub check_share : ℕ → ThresholdDecrypt → Tape → Run ThresholdDecrypt (Unit {0})
check_share sender td p =
    cond (is_sender td sender)
    (onward (is_share_valid sender td p) (λ valid td q.
    cond (not valid)
    (before (fault unverified_decryption_share_sender sender 0 ∷ []) (ends (going tt) (with_shares td (set td.shares sender 0)) q))
    (ends (going tt) td q)))
    (ends (going tt) td p)

-- the next n senders, from sender i on
unfoldable pub remove_from : ℕ → ℕ → ThresholdDecrypt → Tape → Run ThresholdDecrypt (Unit {0})
remove_from zero i td p = ends (going tt) td p
remove_from (suc n) i td p = onward (check_share i td p) (λ _ td q. remove_from n (i + 1) td q)

-- "Shares before the ciphertext are stored unchecked, then checked in sender order."
abbrev pub remove_invalid_shares : ThresholdDecrypt → Tape → Run ThresholdDecrypt (Unit {0})
remove_invalid_shares td p = remove_from node_limit 0 td p

-- the shares are combined; 24 `Decryption`
unfoldable pub combine : ThresholdDecrypt → Tape → Run ThresholdDecrypt (Option ℕ)
combine td p = heard (ask p contribution_decrypted) td (λ a b q. cond (eqb a 0) (ends (failed decryption) td q) (ends (going (Some b)) td q))

-- "Starting decryption tries to combine, and combining first makes sure decryption has started." Each is given for any behaviour of the other
module _ (net : NetworkInfo) (proposer : ℕ) where
  -- a validator with a key sends its own share, which overwrites one stored under its index
  unfoldable pub own_share : (ThresholdDecrypt → Tape → Run ThresholdDecrypt (Option ℕ)) → ThresholdDecrypt → Tape → Run ThresholdDecrypt (Option ℕ)
  own_share try td p =
      cond (is_validator net && net.has_key)
      (heard (ask p own_decryption_share) td (λ a b q.
      before (message share_content proposer b ∷ []) (try (with_shares td (set td.shares net.our_id b)) q)))
      (try td p)

  -- without a ciphertext the Rust fails with `CiphertextIsNone`; no caller gets there (docs/DECISIONS.md)
  unfoldable pub start_with : (ThresholdDecrypt → Tape → Run ThresholdDecrypt (Option ℕ)) → ThresholdDecrypt → Tape → Run ThresholdDecrypt (Option ℕ)
  start_with try td p =
      cond td.had_input (ends (going None) td p)
      (cond (eqb td.ciphertext 0) (ends (failed decryption) td p)
      (onward (remove_invalid_shares td p) (λ _ td q. own_share try (with_input td) q)))

-- "Combining wants a ciphertext and more than f shares."
unfoldable pub try_with : NetworkInfo → (ThresholdDecrypt → Tape → Run ThresholdDecrypt (Option ℕ)) → ThresholdDecrypt → Tape → Run ThresholdDecrypt (Option ℕ)
try_with net start td p =
    cond td.terminated (ends (going None) td p)
    (cond (leb (count_shares td.shares) net.num_faulty) (ends (going None) td p)
    (cond (eqb td.ciphertext 0) (ends (going None) td p)
    (onward (start (with_end td) p) (λ _ td q. combine td q))))

module _ (net : NetworkInfo) (proposer : ℕ) where
  -- once each has set its flag the other ends at its first test; the laws `start_onward` and `try_onward` say that each goes on with the other
  unfoldable pub start_decryption : ThresholdDecrypt → Tape → Run ThresholdDecrypt (Option ℕ)
  start_decryption td p = start_with net proposer (try_with net (ends (going None))) td p

  unfoldable pub try_output : ThresholdDecrypt → Tape → Run ThresholdDecrypt (Option ℕ)
  try_output td p = try_with net (start_with net proposer (ends (going None))) td p

  -- a share is kept. A second one of a sender overwrites the first, is fault 6, and nothing is combined
  unfoldable pub store_share : ℕ → ℕ → ThresholdDecrypt → Tape → Run ThresholdDecrypt (Option ℕ)
  store_share sender share td p =
      cond (is_sender td sender)
      (before (fault multiple_decryption_shares sender 0 ∷ []) (ends (going None) (with_shares td (set td.shares sender share)) p))
      (try_output (with_shares td (set td.shares sender share)) p)

  -- fault 7 where the share is invalid, and an earlier one of the sender stays
  unfoldable pub handle_message : ℕ → ℕ → ThresholdDecrypt → Tape → Run ThresholdDecrypt (Option ℕ)
  handle_message sender share td p =
      cond td.terminated (ends (going None) td p)
      (onward (is_share_valid sender td p) (λ valid td q.
      cond (not valid) (before (fault unverified_decryption_share_sender sender 0 ∷ []) (ends (going None) td q)) (store_share sender share td q)))
