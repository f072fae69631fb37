-- `set_ciphertext` meets its contract, case by case. Assumes nothing.
use Rattle.std.proofs.Common.{eq-eqb, ne_eqb}
use Rattle.decryption.specs.Decrypt.{set_ciphertext}
use Rattle.steps.proofs.LentRuns.{heard_ok, heard_err, stops}
use Rattle.decryption.proofs.ThresholdDecrypt.set_ciphertext.Goals as goal

pub returns-then-self-ne0 : goal.returns-then-self-ne0
unfolding set_ciphertext
returns-then-self-ne0 c = rw (ne_eqb _ _ c.if-self-ne0.true)

pub returns-in_err-verifies : goal.returns-in_err-verifies
unfolding set_ciphertext
returns-in_err-verifies c = rw (stops _ _ c.from_residual.ensures.1, eq-eqb _ _ c.if-self-ne0.false) (heard_err _ _ _ _ _ c.in_err-verifies.ensures)

pub returns-then-verifies-eq0 : goal.returns-then-verifies-eq0
unfolding set_ciphertext
returns-then-verifies-eq0 c = rw (eq-eqb _ _ c.if-self-ne0.false) (heard_ok _ _ _ _ _ c.in_ok-verifies.ensures _ (rw (eq-eqb _ _ c.if-verifies-eq0.true)))

pub returns : goal.returns
unfolding set_ciphertext
returns c = rw (eq-eqb _ _ c.if-self-ne0.false) (heard_ok _ _ _ _ _ c.in_ok-verifies.ensures _ (rw (ne_eqb _ _ c.if-verifies-eq0.false)))
