-- `store_share` meets its contract: the share is the first of its sender, or another. Assumes nothing.
use Rattle.std.proofs.Common.{eq-eqb, ne_eqb}
use Rattle.steps.specs.Steps.{put_all}
use Rattle.decryption.specs.Decrypt.{store_share}
use Rattle.decryption.proofs.ThresholdDecrypt.store_share.Goals as goal

pub returns-then-old-ne0-clause-run : goal.returns-then-old-ne0-clause-run
unfolding store_share put_all
returns-then-old-ne0-clause-run c = rw (ne_eqb _ _ c.if-old-ne0.true, c.fault.ensures.step)

pub returns-clause-run : goal.returns-clause-run
unfolding store_share
returns-clause-run c = rw (eq-eqb _ _ c.if-old-ne0.false) c.try_output.ensures.run
