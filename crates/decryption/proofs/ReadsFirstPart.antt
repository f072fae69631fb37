-- Every operation reads a first part of the chain, and stands behind it afterwards. Assumes nothing.
use Rattle.std.proofs.Common.{ℕ, refl}
use Rattle.network.specs.declared.network_info.NetworkInfo.{NetworkInfo}
use Rattle.steps.specs.Answers.{Tape}
use Rattle.steps.specs.Runs.{Run}
use Rattle.steps.proofs.ReadsFirstPart.{any_kind, Later, kinds, reading, kinds_permit}
use Rattle.decryption.specs.Decrypt.{set_ciphertext, start_decryption, try_output, store_share, handle_message}
use Rattle.decryption.specs.declared.ThresholdDecrypt.{ThresholdDecrypt}
use Rattle.decryption.proofs.Walk.{Combines, any_combines, set_keeps, start_keeps, try_keeps, store_keeps, handle_keeps}

-- an operation that reads a first part of the answers
abbrev pub Reads : {A : Type 0} → (ThresholdDecrypt → Tape → Run ThresholdDecrypt A) → Type 0
Reads k = (td : ThresholdDecrypt) (p : Tape) → Later p (k td p).tape

rules : Combines (kinds any_kind) (reading any_kind ThresholdDecrypt)
rules = any_combines (reading any_kind ThresholdDecrypt) (λ td s. tt) kinds_permit tt

pub set_reads : (proposer ciphertext : ℕ) → Reads (set_ciphertext proposer ciphertext)
set_reads proposer ciphertext td p = set_keeps _ (reading any_kind ThresholdDecrypt) proposer ciphertext refl tt (λ td. tt) 0 td p

module _ (net : NetworkInfo) (proposer : ℕ) where
  pub start_reads : Reads (start_decryption net proposer)
  start_reads td p = start_keeps _ _ net proposer rules 0 td p

  pub try_reads : Reads (try_output net proposer)
  try_reads td p = try_keeps _ _ net proposer rules 0 td p

  pub store_reads : (sender share : ℕ) → Reads (store_share net proposer sender share)
  store_reads sender share td p = store_keeps _ _ net proposer rules sender share tt 0 td p

  pub handle_reads : (sender share : ℕ) → Reads (handle_message net proposer sender share)
  handle_reads sender share td p = handle_keeps _ _ net proposer rules sender share tt 0 td p
