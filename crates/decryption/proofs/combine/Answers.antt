-- `combine` meets its contract, by what the answer told. Assumes nothing.
use Rattle.std.proofs.Common.{eq-eqb, ne_eqb}
use Rattle.decryption.specs.Decrypt.{combine}
use Rattle.steps.proofs.LentRuns.{heard_ok, heard_err, stops}
use Rattle.decryption.proofs.combine.Goals as goal

pub returns-in_err-decrypted : goal.returns-in_err-decrypted
unfolding combine
returns-in_err-decrypted c = λ td. rw (stops _ _ c.from_residual.ensures.1) (heard_err _ _ _ _ _ c.in_err-decrypted.ensures)

pub returns-then-decrypted-eq0 : goal.returns-then-decrypted-eq0
unfolding combine
returns-then-decrypted-eq0 c = λ td. heard_ok _ _ _ _ _ c.in_ok-decrypted.ensures _ (rw (eq-eqb _ _ c.if-decrypted-eq0.true))

pub returns : goal.returns
unfolding combine
returns c = λ td. heard_ok _ _ _ _ _ c.in_ok-decrypted.ensures _ (rw (ne_eqb _ _ c.if-decrypted-eq0.false))
