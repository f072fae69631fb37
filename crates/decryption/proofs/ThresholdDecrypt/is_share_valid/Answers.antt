-- `is_share_valid` meets its contract: no ciphertext yet, or by the answer. Assumes nothing.
use Rattle.std.proofs.Common.{refl, eq-eqb, ne_eqb}
use Rattle.decryption.specs.Decrypt.{is_share_valid}
use Rattle.steps.proofs.LentRuns.{heard_ok, heard_err, stops}
use Rattle.decryption.proofs.ThresholdDecrypt.is_share_valid.Goals as goal

pub returns-then-self-eq0 : goal.returns-then-self-eq0
unfolding is_share_valid
returns-then-self-eq0 c = rw (eq-eqb _ _ c.if-self-eq0.true)

pub returns-in_err-verifies : goal.returns-in_err-verifies
unfolding is_share_valid
returns-in_err-verifies c = rw (stops _ _ c.from_residual.ensures.1, ne_eqb _ _ c.if-self-eq0.false) (heard_err _ _ _ _ _ c.in_err-verifies.ensures)

pub returns : goal.returns
unfolding is_share_valid
returns c = rw (ne_eqb _ _ c.if-self-eq0.false) (heard_ok _ _ _ _ _ c.in_ok-verifies.ensures _ refl)
