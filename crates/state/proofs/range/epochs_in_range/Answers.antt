-- `epochs_in_range` meets its contract. The invariant: what was found so far, and the epochs from here on. Assumes nothing.
use Rattle.std.proofs.Common.{◌∙◌}
use Rattle.state.proofs.RangeCode.{epochs_turn, epochs_over}
use Rattle.state.proofs.range.epochs_in_range.Goals as goal

pub loop-place-preserved : goal.loop-place-preserved
loop-place-preserved c =
    epochs_turn c.args.state.now c.loop-place.ok c.epochs_at-start.result _ c.loop-place.place c.epoch_length-length.result c.loop-place-test.true c.epoch_length-length.ensures _
    (rw (← c.strategy_of-strategy.ensures) c.epoch_in_range-ok.ensures)
    ∙ c.loop-place.invariant

pub returns : goal.returns
returns c = epochs_over c.args.state.now c.loop-place.ok c.epochs_at-start.result _ c.loop-place.place c.epoch_length-length.result c.loop-place-test.false ∙ c.loop-place.invariant
