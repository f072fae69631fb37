-- `read_at` meets its contract, case by case. Assumes nothing.
use Rattle.std.proofs.Common.{refl, sym, ◌∙◌, ne_eqb}
use Rattle.steps.specs.Steps.{put_all}
use Rattle.steps.proofs.LentRuns.{heard_ok_left, heard_err_left, stops}
use Rattle.epochwords.specs.Batch.{read_at}
use Rattle.epochwords.proofs.batch.EpochRecords.read_at.Goals as goal

pub returns-in_err-a-clause-run : goal.returns-in_err-a-clause-run
unfolding read_at
returns-in_err-a-clause-run c =
    rw (stops _ _ c.from_residual.ensures.1, sym c.is_read.ensures ∙ c.if-not-is_read.false) (heard_err_left _ _ _ _ _ c.in_err-a.ensures c.args.writer.now)

pub returns-then-a-eq0-clause-run : goal.returns-then-a-eq0-clause-run
unfolding read_at put_all
returns-then-a-eq0-clause-run c =
    rw (sym c.is_read.ensures ∙ c.if-not-is_read.false) (heard_ok_left _ c.args.self.words.now _ _ _ c.in_ok-a.ensures _ _ (rw (c.if-a-eq0.true, c.fault.ensures.step) refl))

pub returns-clause-run : goal.returns-clause-run
unfolding read_at put_all
returns-clause-run c =
    rw (sym c.is_read.ensures ∙ c.if-not-is_read.false) (heard_ok_left _ c.args.self.words.now _ _ _ c.in_ok-a.ensures _ _ (rw (ne_eqb _ _ c.if-a-eq0.false, c.with_bit.ensures) refl))
