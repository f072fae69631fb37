-- How many entries an epoch's calls write besides one for each record that they read: at Done the faults 2, N × N at most; a fault 2 or 6 after a
-- share. Assumes nothing.
use Rattle.std.proofs.Common.{ℕ, ◌+◌, List, Bool, arith}
use Rattle.network.specs.declared.network_info.NetworkInfo.{NetworkInfo}
use Rattle.steps.proofs.Logic.{anything, permits_anything}
use Rattle.steps.proofs.Bounded.{bounded_wider, spends_bounded, counting, counting_stateless}
use Rattle.decryption.specs.declared.ThresholdDecrypt.{ThresholdDecrypt}
use Rattle.proposal.specs.declared.ProposalState.{ProposalState}
use Rattle.subset.proofs.Bounded.{Writes}
use Rattle.epochwords.specs.declared.SubsetHandlingStrategy.{SubsetHandlingStrategy}
use Rattle.epoch.specs.declared.MessageContent.{MessageContent}
use Rattle.epoch.specs.Epoch.{propose, handle_message_content}
pub use Rattle.epoch.proofs.Walk.{at_done}
use Rattle.epoch.proofs.Walk.{Rules, any_rules, propose_keeps, content_keeps}

-- THE EPOCH'S TWO CALLS
rules : (n : ℕ) → Rules anything (counting ThresholdDecrypt) (counting (List ℕ)) n (counting ProposalState)
rules n = any_rules counting_stateless permits_anything tt tt n

module _ (net : NetworkInfo) (strategy : SubsetHandlingStrategy) (encrypted : Bool) where
  pub propose_writes : Writes (1 + at_done net) (propose net strategy encrypted)
  propose_writes w tape =
      bounded_wider (at_done net + 1) (1 + at_done net) tape _ (omega arith) (spends_bounded _ _ tape _ (propose_keeps _ _ _ net _ (rules _) strategy encrypted tt tt tt w tape))

  pub content_writes : (sender p : ℕ) (content : MessageContent) → Writes (1 + at_done net) (handle_message_content net strategy encrypted sender p content)
  content_writes sender p content w tape =
      bounded_wider (at_done net + 1) (1 + at_done net) tape _ (omega arith)
      (spends_bounded _ _ tape _ (content_keeps _ _ _ net _ (rules _) strategy encrypted tt sender p content tt (λ share e. tt) w tape))
