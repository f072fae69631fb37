-- What `call_subset` calls gets what it requires: the list of contributions stays one. Assumes nothing.
use Rattle.std.proofs.Common.{◌∙◌}
use Rattle.epoch.proofs.CallCode.{up_went, kept_input}
use Rattle.epoch.proofs.epoch_state.call_subset.Goals as goal

pub process_subset-requires : goal.process_subset-requires
process_subset-requires c = (record { few = c.requires.0.few; long = c.hand_up.auto.epoch ∙ c.requires.0.long }, kept_input c.args.setting.net c.args.input _ _ _ _ c.requires.2 (up_went _ c.args.setting.strategy c.args.setting.encrypted _ _ _ _ c.hand_up.new.writer _ _ c.in_ok-done.ensures.run) c.requires.1)
