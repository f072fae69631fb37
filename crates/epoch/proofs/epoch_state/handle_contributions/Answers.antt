-- What `handle_contributions` calls gets what it requires: the list of contributions stays one. Assumes nothing.
use Rattle.std.proofs.Common.{◌∙◌}
use Rattle.epoch.proofs.ContributionCode.{kept_from}
use Rattle.epoch.proofs.epoch_state.handle_contributions.Goals as goal

pub first_contributions-requires : goal.first_contributions-requires
first_contributions-requires c = (record { few = c.requires.0.few; long = c.handle_each-handled.auto.epoch ∙ c.requires.0.long }, kept_from _ _ _ _ _ _ _ _ _ c.handle_each-handled.ensures.run c.requires.1)
