-- `handle_each` meets its contract. The invariant: what handling from here on leaves is what handling from the start leaves; the list stays.
-- Assumes nothing.
use Rattle.steps.proofs.LentRuns.{stops}
use Rattle.std.proofs.Common.{◌∙◌}
use Rattle.epoch.proofs.ContributionCode.{kept_contribution, each_goes, each_stops}
use Rattle.epoch.proofs.epoch_state.handle_each.Goals as goal

pub returns-in_err-handle_contribution-clause-run : goal.returns-in_err-handle_contribution-clause-run
returns-in_err-handle_contribution-clause-run c = rw (stops _ _ c.from_residual.ensures.1)
    (each_stops _ _ _ _ _ _ _ c.loop-i-test.true _ _ c.contributor-p.ensures.0 c.value_of-value.ensures _ _ c.handle_contribution.new.writer _ _ c.in_err-handle_contribution.ensures.run ∙ c.loop-i.invariant.run)

pub loop-i-preserved : goal.loop-i-preserved
loop-i-preserved c = record {
  long = c.handle_contribution.auto.epoch ∙ c.loop-i.invariant.long;
  listed = kept_contribution _ _ _ _ _ _ _ _ _ c.in_ok-handle_contribution.ensures.run c.loop-i.invariant.listed;
  run = each_goes _ _ _ _ _ _ _ c.loop-i-test.true _ _ c.contributor-p.ensures.0 c.value_of-value.ensures _ _ c.handle_contribution.new.writer _ c.in_ok-handle_contribution.ensures.run ∙ c.loop-i.invariant.run;
  table = c.handle_contribution.ensures.table ∙ c.loop-i.invariant.table;
}
