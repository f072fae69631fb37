-- `propose_checks` meets its contract. Assumes nothing.
use Rattle.steps.proofs.LentRuns.{stops}
use Rattle.calls.proofs.ChecksApart.{then_refused}
use Rattle.calls.proofs.checks.propose_checks.Goals as goal

pub returns-in_err-first_checks : goal.returns-in_err-first_checks
returns-in_err-first_checks c = rw (stops _ _ c.from_residual.ensures.1) (then_refused _ _ _ c.in_err-first_checks.ensures)
