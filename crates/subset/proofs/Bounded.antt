-- How many entries the subset writes: at most one for each record that it reads. Assumes nothing.
use Rattle.std.proofs.Common.{ℕ, List}
use Rattle.network.specs.declared.network_info.NetworkInfo.{NetworkInfo}
use Rattle.steps.specs.declared.reader.Content.{Content}
use Rattle.steps.specs.Answers.{Tape}
use Rattle.steps.specs.Runs.{Run}
use Rattle.steps.proofs.Logic.{anything, permits_anything}
use Rattle.steps.proofs.Bounded.{Bounded, spends_bounded, counting, counting_stateless}
use Rattle.proposal.specs.declared.ProposalState.{ProposalState}
use Rattle.subset.specs.Subset.{propose, handle_message}
use Rattle.subset.proofs.Walk.{Rules, any_rules, propose_keeps, handle_keeps}

-- an operation on an epoch's words that writes at most one entry for each record it reads, and `more` besides
abbrev pub Writes : {A : Type 0} → ℕ → (List ℕ → Tape → Run (List ℕ) A) → Type 0
Writes more k = (w : List ℕ) (p : Tape) → Bounded more p (k w p)

rules : (n : ℕ) → Rules anything (counting ProposalState) (counting (List ℕ)) n
rules n = any_rules counting_stateless permits_anything n

module _ (net : NetworkInfo) (error : ℕ) where
  pub propose_writes : Writes 0 (propose net error)
  propose_writes w p = spends_bounded _ _ p _ (propose_keeps _ _ _ net (rules _) error tt 0 w p)

  pub handle_writes : (content : Content) (p : ℕ) → Writes 0 (handle_message net error content p)
  handle_writes content p w tape = spends_bounded _ _ tape _ (handle_keeps _ _ _ net (rules _) error tt content p tt 0 w tape)
