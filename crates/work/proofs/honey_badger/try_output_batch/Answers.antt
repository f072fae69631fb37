-- `try_output_batch` meets its contract, by what its two callees leave. Assumes nothing.
use Rattle.std.proofs.Common.{refl, sym, ◌∙◌}
use Rattle.steps.specs.Steps.{put_all}
use Rattle.steps.proofs.LentRuns.{onward_ok, onward_err, stops}
use Rattle.work.specs.Shape.{try_output_batch}
use Rattle.work.proofs.honey_badger.try_output_batch.Goals as goal

pub returns-in_err-output_batch-clause-run : goal.returns-in_err-output_batch-clause-run
unfolding try_output_batch
returns-in_err-output_batch-clause-run c =
    rw (stops _ _ c.from_residual.ensures.1, sym c.is_ready.ensures ∙ c.if-not-is_ready.false) (onward_err _ _ _ _ c.output_batch.new.writer _ _ c.in_err-output_batch.ensures.run)

pub returns-clause-run : goal.returns-clause-run
unfolding try_output_batch put_all
returns-clause-run c = rw (sym c.is_ready.ensures ∙ c.if-not-is_ready.false) (onward_ok _ _ _ _ c.output_batch.new.writer _ _ c.in_ok-output_batch.ensures.run _ refl)
