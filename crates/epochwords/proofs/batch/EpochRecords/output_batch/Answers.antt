-- `output_batch` meets its contract: the readable ones are read, then the batch is written. Assumes nothing.
use Rattle.std.proofs.Common.{sym, ap}
use Rattle.steps.specs.Steps.{put_all}
use Rattle.steps.proofs.LentRuns.{onward_ok, onward_err, stops}
use Rattle.epochwords.specs.Batch.{output_batch_in}
use Rattle.epochwords.proofs.BatchCode.{readable_ones, batch_out}
use Rattle.epochwords.proofs.batch.EpochRecords.output_batch.Goals as goal

pub returns-in_err-readable-clause-run : goal.returns-in_err-readable-clause-run
unfolding output_batch_in
returns-in_err-readable-clause-run c =
    rw (stops _ _ c.from_residual.ensures.1) (onward_err _ _ _ _ c.read_all.new.writer _ _ c.in_err-readable.ensures.run)

pub returns-clause-run : goal.returns-clause-run
unfolding output_batch_in put_all
returns-clause-run c = onward_ok _ _ _ _ c.read_all.new.writer _ _ c.in_ok-readable.ensures.run _
    (batch_out c.args.self.size c.args.self.n c.args.number _ _ _ _ _ _ (readable_ones c.args.self.size c.args.self.n _ _ _ (sym (ap (λ x. x.verdict) c.in_ok-readable.ensures.run))) (rw (sym c.from-entries.ensures) c.output.ensures.step) c.put_entries.ensures.step)
