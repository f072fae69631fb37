-- `skip` meets its contract. Assumes nothing.
use Rattle.std.proofs.Common.{sym, ◌∙◌}
use Rattle.state.proofs.RangeCode.{ok_words}
use Rattle.engine.proofs.skip.Goals as goal

pub skip_to_epoch-requires : goal.skip_to_epoch-requires
skip_to_epoch-requires c = ok_words c.args.state.now (sym c.state_ok.ensures ∙ c.if-not-state_ok.false)
