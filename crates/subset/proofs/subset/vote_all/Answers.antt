-- `vote_all` meets its contract. The invariant: what the votes from here on leave is what all votes leave. Assumes nothing.
use Rattle.std.proofs.Common.{refl, rules}
use Rattle.steps.specs.Steps.{put_all}
use Rattle.steps.proofs.LentRuns.{onward_ok, onward_err_as, stops}
use Rattle.subset.proofs.SubsetCode.{vote_turn, vote_done}
use Rattle.subset.proofs.subset.vote_all.Goals as goal

pub returns-in_err-answer_at-clause-run : goal.returns-in_err-answer_at-clause-run
returns-in_err-answer_at-clause-run g c =
    rw (stops _ _ c.from_residual.ensures.1, ← c.loop-p.invariant.2, vote_turn _ _ _ _ _ _ c.loop-p-test.true) (onward_err_as _ _ _ _ _ c.answer_at.new.writer _ _ c.in_err-answer_at.ensures.run)

pub loop-p-preserved : goal.loop-p-preserved
loop-p-preserved g c = (search rules, search rules, rw (← c.loop-p.invariant.2, vote_turn _ _ _ _ _ _ c.loop-p-test.true) (onward_ok _ _ _ _ c.answer_at.new.writer _ _ c.in_ok-answer_at.ensures.run _ refl))

pub returns-clause-run : goal.returns-clause-run
unfolding put_all
returns-clause-run g c = rw (← c.loop-p.invariant.2, vote_done _ _ _ _ _ _ c.loop-p-test.false)
