-- `settle` meets its contract: a first part of scratch is written, which is zeroed. Assumes nothing.
use Rattle.std.proofs.Common.{refl, sym, ◌∙◌, arith, length-take-le}
use Rattle.calls.specs.Calls.{zeroed}
use Rattle.calls.specs.Refusals.{call_reply}
use Rattle.calls.proofs.CallCode.{epoch_fits, zeroed_part, after_same}
use Rattle.calls.proofs.call.settle.Goals as goal

pub slice_bounds-run_twice-end-2 : goal.slice_bounds-run_twice-end-2
slice_bounds-run_twice-end-2 c = sym (length-take-le c.epoch_length-size.result c.args.scratch.now (omega (arith, epoch_fits c.args.state.now c.requires.ok, c.epoch_length-size.ensures, c.requires.room)))

pub run_twice-requires : goal.run_twice-requires
run_twice-requires c = record { ok = c.requires.ok; good = c.requires.good; long = (length-take-le c.epoch_length-size.result c.args.scratch.now (omega (arith, epoch_fits c.args.state.now c.requires.ok, c.epoch_length-size.ensures, c.requires.room))) ∙ c.epoch_length-size.ensures; nodes = c.requires.nodes; first = c.requires.first }

pub returns : goal.returns
returns c = after_same (call_reply c.run_twice.result) _ _ _ _ _ _ refl (zeroed_part c.args.state.now c.args.scratch.now c.run_twice.new.words c.epoch_length-size.result (c.run_twice.auto.words ∙ (length-take-le c.epoch_length-size.result c.args.scratch.now (omega (arith, epoch_fits c.args.state.now c.requires.ok, c.epoch_length-size.ensures, c.requires.room)))) (omega (arith, epoch_fits c.args.state.now c.requires.ok, c.epoch_length-size.ensures, c.requires.room))) refl
    ∙ c.run_twice.ensures (zeroed c.args.state.now c.args.scratch.now)
