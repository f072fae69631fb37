-- `MessageNumbers::checks` meets its contract, test by test. Assumes nothing.
use Rattle.steps.proofs.LentRuns.{stops}
use Rattle.std.proofs.Common.{ap, ◌∙◌}
use Rattle.calls.specs.Refusals.{reply_of}
use Rattle.calls.specs.declared.refusal.Refusal.TheVariants.{UnknownSender, MessageMalformed}
use Rattle.calls.proofs.ChecksApart.{then_passed, then_refused, message_sender, message_proposer, message_read}
use Rattle.calls.proofs.checks.MessageNumbers.checks.Goals as goal

pub returns-in_err-first_checks-clause-reply : goal.returns-in_err-first_checks-clause-reply
returns-in_err-first_checks-clause-reply c = rw (stops _ _ c.from_residual.ensures.1) (then_refused _ _ _ c.in_err-first_checks.ensures)

pub returns-then-n-self-clause-reply : goal.returns-then-n-self-clause-reply
returns-then-n-self-clause-reply c = then_passed _ _ _ c.in_ok-first_checks.ensures (then_refused _ _ UnknownSender (message_sender c.args.self.sender c.args.self.content c.args.self.proposer c.args.self.item c.args.state.now c.if-n-self.true))

pub returns-then-n-self-2-clause-reply : goal.returns-then-n-self-2-clause-reply
returns-then-n-self-2-clause-reply c = then_passed _ _ _ c.in_ok-first_checks.ensures (then_refused _ _ MessageMalformed (message_proposer c.args.self.sender c.args.self.content c.args.self.proposer c.args.self.item c.args.state.now c.if-n-self.false c.if-n-self-2.true))

pub returns-in_err-content-clause-reply : goal.returns-in_err-content-clause-reply
returns-in_err-content-clause-reply c =
    rw (stops _ _ c.from_residual-in_err-content.ensures.1)
    (then_passed _ _ _ c.in_ok-first_checks.ensures (then_refused _ _ _ (ap reply_of c.in_err-content.ensures ∙ message_read c.args.self.sender c.args.self.content c.args.self.proposer c.args.self.item c.args.state.now c.if-n-self.false c.if-n-self-2.false)))

pub returns-in_err-epoch_check-clause-reply : goal.returns-in_err-epoch_check-clause-reply
returns-in_err-epoch_check-clause-reply c =
    rw (stops _ _ c.from_residual-in_err-epoch_check.ensures.1)
    (then_passed _ _ _ c.in_ok-first_checks.ensures (then_passed _ _ _ (ap reply_of c.in_ok-content.ensures ∙ message_read c.args.self.sender c.args.self.content c.args.self.proposer c.args.self.item c.args.state.now c.if-n-self.false c.if-n-self-2.false) c.in_err-epoch_check.ensures))

pub returns-clause-reply : goal.returns-clause-reply
returns-clause-reply c = then_passed _ _ _ c.in_ok-first_checks.ensures (then_passed _ _ _ (ap reply_of c.in_ok-content.ensures ∙ message_read c.args.self.sender c.args.self.content c.args.self.proposer c.args.self.item c.args.state.now c.if-n-self.false c.if-n-self-2.false) c.in_ok-epoch_check.ensures)
