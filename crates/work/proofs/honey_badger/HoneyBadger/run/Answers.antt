-- `run` meets its contract, from what its parts left. Assumes nothing.
use Rattle.steps.proofs.LentRuns.{stops}
use Rattle.work.specs.Shape.{body_of}
use Rattle.work.proofs.RunCode.{run_ends, run_goes}
use Rattle.work.proofs.honey_badger.HoneyBadger.run.Goals as goal

pub returns-in_err-call_epoch-clause-run : goal.returns-in_err-call_epoch-clause-run
returns-in_err-call_epoch-clause-run c =
    rw (stops _ _ c.from_residual.ensures.1) (run_ends c.args.self.now.state.now c.args.self.now.epoch (body_of c.args.self.now.call c.args.self.now.state.now c.args.self.now.epoch) _ _ _ _ c.call_epoch.new.writer _ c.in_err-call_epoch.ensures.run)

pub returns-clause-run : goal.returns-clause-run
returns-clause-run c = run_goes c.args.self.now.state.now c.args.self.now.epoch (body_of c.args.self.now.call c.args.self.now.state.now c.args.self.now.epoch) _ _ _ _ c.call_epoch.new.writer c.in_ok-call_epoch.ensures.run _ _ _ c.try_output_batches.new.writer c.try_output_batches.ensures.run
