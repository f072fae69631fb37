-- `propose` meets its contract: an observer's call, and a validator's. Assumes nothing.
use Rattle.std.proofs.Common.{sym, ap, ◌∙◌}
use Rattle.network.specs.Network.{is_validator}
use Rattle.steps.specs.Answers.{tape_of}
use Rattle.calls.specs.Calls.{zeroed}
use Rattle.calls.proofs.OperationCode.{propose_observer}
use Rattle.calls.proofs.operations.propose.Goals as goal

pub returns-then-not-is_validator : goal.returns-then-not-is_validator
returns-then-not-is_validator c = c.rest.ensures _ ∙ propose_observer c.args.state.now c.requires.ok (tape_of c.args.answers.now) (zeroed c.args.state.now c.args.scratch.now) c.args.table.now ((sym (c.is_validator.ensures ∙ ap is_validator c.net_of-net.ensures)) ∙ c.if-not-is_validator.true)
