-- What comes to an epoch, and the run that it makes.
use Rattle.std.specs.Prelude.{ℕ, ◌<◌, List, Bool, cond, eqb}
use Rattle.network.specs.declared.network_info.NetworkInfo.{NetworkInfo}
use Rattle.steps.specs.Numbers.{proposal_serialised, propose_bincode, input_subset, handle_subset_message}
use Rattle.steps.specs.Answers.{Tape, ask}
use Rattle.steps.specs.Runs.{going, failed, Run, ends, heard}
use Rattle.epochwords.specs.declared.SubsetHandlingStrategy.{SubsetHandlingStrategy}
use Rattle.subset.specs.Subset.{propose as propose_subset, handle_message as handle_subset}
use Rattle.epoch.specs.Epoch.{call_subset, propose, handle_decryption_share}
use Rattle.epoch.specs.declared.epoch_state.SubsetInput.{SubsetInput}
use Rattle.epoch.specs.declared.epoch_state.SubsetInput.TheVariants.{Proposal, Message}
use Rattle.epoch.specs.declared.epoch_state.Input.{Input}
use Rattle.epoch.specs.declared.epoch_state.Input.TheVariants.{Subset as OfSubset, Share as OfShare}

-- a proposal is serialised before the subset gets it
abbrev pub serialised : SubsetInput → List ℕ → Tape → Run (List ℕ) (Unit {0})
serialised Proposal w t = heard (ask t proposal_serialised) w (λ a b q. cond (eqb a 0) (ends (failed propose_bincode) w q) (ends (going tt) w q))
serialised (Message content p) w t = ends (going tt) w t

-- 22 `InputSubset`, 23 `HandleSubsetMessage`
abbrev pub subset_call : NetworkInfo → SubsetInput → List ℕ → Tape → Run (List ℕ) Bool
subset_call net Proposal = propose_subset net input_subset
subset_call net (Message content p) = handle_subset net handle_subset_message content p

abbrev pub subset_run : NetworkInfo → SubsetHandlingStrategy → Bool → SubsetInput → List ℕ → Tape → Run (List ℕ) (Unit {0})
subset_run net strategy encrypted Proposal = propose net strategy encrypted
subset_run net strategy encrypted (Message content p) = call_subset net strategy encrypted (handle_subset net handle_subset_message content p)

abbrev pub input_run : NetworkInfo → SubsetHandlingStrategy → Bool → Input → List ℕ → Tape → Run (List ℕ) (Unit {0})
input_run net strategy encrypted (OfSubset input) = subset_run net strategy encrypted input
input_run net strategy encrypted (OfShare sender p share) = handle_decryption_share net sender p share

-- who is named is a node
abbrev pub Names : SubsetInput → ℕ → Type 0
Names Proposal n = Unit {0}
Names (Message content p) n = p < n

abbrev pub Comes : Input → ℕ → Type 0
Comes (OfSubset input) n = Names input n
Comes (OfShare sender p share) n = (sender < n) × (p < n)
