-- What `hand_up` calls gets what it requires: the list of contributions stays one. Assumes nothing.
use Rattle.std.proofs.Common.{◌∙◌}
use Rattle.epoch.proofs.CallCode.{kept_input}
use Rattle.epoch.proofs.epoch_state.hand_up.Goals as goal

pub first_contributions-requires : goal.first_contributions-requires
first_contributions-requires c = (record { few = c.requires.0.few; long = c.input_subset-called.auto.epoch ∙ c.requires.0.long }, kept_input c.args.setting.net c.args.input _ _ _ _ c.requires.2 c.input_subset-called.ensures.run c.requires.1)
