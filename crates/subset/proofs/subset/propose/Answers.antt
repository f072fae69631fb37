-- `propose` meets its contract: an observer, or the own proposal is broadcast. Assumes nothing.
use Rattle.std.proofs.Common.{sym, ◌∙◌}
use Rattle.steps.proofs.LentRuns.{onward_ok, onward_err_as, stops}
use Rattle.subset.specs.Subset.{propose}
use Rattle.subset.proofs.subset.propose.Goals as goal

pub returns-in_err-answer_at-clause-run : goal.returns-in_err-answer_at-clause-run
unfolding propose
returns-in_err-answer_at-clause-run g c =
    rw (stops _ _ c.from_residual.ensures.1, sym c.is_validator.ensures ∙ c.if-not-is_validator.false) (onward_err_as _ _ _ _ _ c.answer_at.new.writer _ _ c.in_err-answer_at.ensures.run)

pub returns-clause-run : goal.returns-clause-run
unfolding propose
returns-clause-run g c = rw (sym c.is_validator.ensures ∙ c.if-not-is_validator.false) (onward_ok _ _ _ _ c.answer_at.new.writer _ _ c.in_ok-answer_at.ensures.run _ c.try_output.ensures.run)
