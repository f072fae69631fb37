-- How many entries threshold decryption writes: one for each answer, and fault 6 besides. Assumes nothing.
use Rattle.std.proofs.Common.{ℕ}
use Rattle.network.specs.declared.network_info.NetworkInfo.{NetworkInfo}
use Rattle.steps.specs.Answers.{Tape}
use Rattle.steps.specs.Runs.{Run}
use Rattle.steps.proofs.Logic.{anything, permits_anything}
use Rattle.steps.proofs.Bounded.{Bounded, spends_bounded, counting}
use Rattle.decryption.specs.Decrypt.{set_ciphertext, start_decryption, handle_message}
use Rattle.decryption.specs.declared.ThresholdDecrypt.{ThresholdDecrypt}
use Rattle.decryption.proofs.Walk.{Combines, any_combines, set_keeps, start_keeps, handle_keeps}

-- an operation that writes at most one entry for each record it reads, and `more` besides
abbrev pub Writes : {A : Type 0} → ℕ → (ThresholdDecrypt → Tape → Run ThresholdDecrypt A) → Type 0
Writes more k = (td : ThresholdDecrypt) (p : Tape) → Bounded more p (k td p)

rules : Combines anything (counting ThresholdDecrypt)
rules = any_combines (counting ThresholdDecrypt) (λ td s. tt) permits_anything tt

pub set_writes : (more proposer ciphertext : ℕ) → Writes more (set_ciphertext proposer ciphertext)
set_writes more proposer ciphertext td p = spends_bounded _ _ p _ (set_keeps anything (counting ThresholdDecrypt) proposer ciphertext tt tt (λ td. tt) more td p)

module _ (net : NetworkInfo) (proposer : ℕ) where
  pub start_writes : Writes 0 (start_decryption net proposer)
  start_writes td p = spends_bounded _ _ p _ (start_keeps anything (counting ThresholdDecrypt) net proposer rules 0 td p)

  pub handle_writes : (sender share : ℕ) → Writes 1 (handle_message net proposer sender share)
  handle_writes sender share td p = spends_bounded _ _ p _ (handle_keeps anything (counting ThresholdDecrypt) net proposer rules sender share tt 0 td p)
