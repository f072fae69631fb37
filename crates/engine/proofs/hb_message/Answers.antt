-- `hb_message` meets its contract: turned down by its checks, or run, with scratch cleared afterwards. Assumes nothing.
use Rattle.std.proofs.Common.{refl, ◌∙◌}
use Rattle.calls.specs.Calls.{zeroed}
use Rattle.calls.proofs.ChecksApart.{turned_past, message_callable, message_checked, ends_refused, ends_run, same_content}
use Rattle.engine.proofs.QueryCode.{call_replied}
use Rattle.engine.proofs.hb_message.Goals as goal

pub turned_down-requires : goal.turned_down-requires
turned_down-requires c = turned_past _ _ _ _ _ c.in-Err.ensures.reply

pub returns-in-Err : goal.returns-in-Err
returns-in-Err c =
    rw c.turned_down.ensures.reply
    (ends_refused c.args.state.now c.args.scratch.now c.args.step.now _ (message_checked c.args.state.now c.args.scratch.now c.args.answers.now c.args.step.now c.args.sender c.args.epoch c.args.content c.args.proposer c.args.item) c.in-Err.refusal c.in-Err.ensures.reply
    _ c.turned_down.ensures.left c.turned_down.ensures.cleared)

pub handle_message-ended-requires : goal.handle_message-ended-requires
handle_message-ended-requires c = message_callable _ _ _ c.args.sender c.args.content c.args.proposer c.args.item _ c.in-Ok.ensures.reply

pub returns : goal.returns
unfolding zeroed
returns c =
    rw (call_replied _ _ c.reply.ensures, c.clear.ensures, c.scratch_length-used.ensures) (c.handle_message-ended.ensures ∙ same_content _ _ _ _ _ _ _ _ _ c.in-Ok.ensures.content
    ∙ ends_run c.args.state.now c.args.scratch.now c.args.step.now _ (message_checked c.args.state.now c.args.scratch.now c.args.answers.now c.args.step.now c.args.sender c.args.epoch c.args.content c.args.proposer c.args.item) _ c.in-Ok.ensures.reply refl)
