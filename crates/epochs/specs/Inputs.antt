-- That what comes to an epoch is of its nodes has one proof, so that a type may hold it.
use Rattle.std.specs.Prelude.{ℕ}
use Rattle.std.specs.Coded.{×_prop, Unit-prop, le_prop}
use Rattle.epoch.specs.declared.epoch_state.SubsetInput.TheVariants.{Proposal, Message}
use Rattle.epoch.specs.declared.epoch_state.Input.{Input}
use Rattle.epoch.specs.declared.epoch_state.Input.TheVariants.{Subset, Share}
use Rattle.epoch.specs.Outcomes.{Comes}

pub Comes-prop : (input : Input) (n : ℕ) → IsProp (Comes input n)
Comes-prop (Subset Proposal) n = Unit-prop
Comes-prop (Subset (Message content p)) n = le_prop
Comes-prop (Share sender p share) n = ×_prop le_prop le_prop
