-- `try_output` meets its contract: too early or decided, or by the votes and whether all are complete. Assumes nothing.
use Rattle.std.proofs.Common.{sym, ◌∙◌}
use Rattle.steps.specs.Steps.{put_all}
use Rattle.steps.proofs.LentRuns.{onward_ok, onward_err_as, stops}
use Rattle.subset.proofs.SubsetCode.{votes_left}
use Rattle.subset.proofs.subset.try_output.Goals as goal

pub returns-in_err-votes-clause-run : goal.returns-in_err-votes-clause-run
returns-in_err-votes-clause-run g c =
    rw (stops _ _ c.from_residual.ensures.1) (votes_left _ _ _ _ _ _ c.count_accepted.ensures c.num_correct.ensures c.if-decided.false c.if-count_accepted-num_correct.false _ _ (onward_err_as _ _ _ _ _ c.votes.new.writer _ _ c.in_err-votes.ensures.run))

pub returns-then-all_complete-clause-run : goal.returns-then-all_complete-clause-run
unfolding put_all
returns-then-all_complete-clause-run g c = votes_left _ _ _ _ _ _ c.count_accepted.ensures c.num_correct.ensures c.if-decided.false c.if-count_accepted-num_correct.false _ _ (onward_ok _ _ _ _ c.votes.new.writer _ _ c.in_ok-votes.ensures.run _ (rw (sym c.all_complete.ensures ∙ c.if-all_complete.true)))

pub returns-clause-run : goal.returns-clause-run
unfolding put_all
returns-clause-run g c = votes_left _ _ _ _ _ _ c.count_accepted.ensures c.num_correct.ensures c.if-decided.false c.if-count_accepted-num_correct.false _ _ (onward_ok _ _ _ _ c.votes.new.writer _ _ c.in_ok-votes.ensures.run _ (rw (sym c.all_complete.ensures ∙ c.if-all_complete.false)))
