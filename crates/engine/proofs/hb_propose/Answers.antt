-- `hb_propose` meets its contract: turned down by its checks, or run, with scratch cleared afterwards. Assumes nothing.
use Rattle.std.proofs.Common.{refl, ◌∙◌}
use Rattle.calls.specs.Calls.{zeroed}
use Rattle.calls.proofs.ChecksApart.{turned_past, propose_checked, ends_refused, ends_run}
use Rattle.engine.proofs.QueryCode.{call_replied}
use Rattle.engine.proofs.hb_propose.Goals as goal

pub turned_down-requires : goal.turned_down-requires
turned_down-requires c = turned_past _ _ _ _ _ c.in-Err.ensures

pub returns-in-Err : goal.returns-in-Err
returns-in-Err c =
    rw c.turned_down.ensures.reply
    (ends_refused c.args.state.now c.args.scratch.now c.args.step.now _ (propose_checked c.args.state.now c.args.scratch.now c.args.answers.now c.args.step.now) c.in-Err.refusal c.in-Err.ensures
    _ c.turned_down.ensures.left c.turned_down.ensures.cleared)

pub returns : goal.returns
unfolding zeroed
returns c =
    rw (call_replied _ _ c.reply.ensures, c.clear.ensures, c.scratch_length-used.ensures) (c.propose-ended.ensures
    ∙ ends_run c.args.state.now c.args.scratch.now c.args.step.now _ (propose_checked c.args.state.now c.args.scratch.now c.args.answers.now c.args.step.now) _ c.in_default.ensures refl)
