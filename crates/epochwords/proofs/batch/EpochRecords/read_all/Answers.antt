-- `read_all` meets its contract. The invariant: what reading from here on leaves is what reading from the start leaves. Assumes nothing.
use Rattle.std.proofs.Common.{refl, sym, ap, ◌∙◌}
use Rattle.steps.specs.Runs.{leaves}
use Rattle.steps.proofs.LentRuns.{onward_ok, onward_err, stops}
use Rattle.epochwords.proofs.BatchCode.{reads_turn}
use Rattle.epochwords.proofs.batch.EpochRecords.read_all.Goals as goal

pub returns-in_err-readable-clause-run : goal.returns-in_err-readable-clause-run
returns-in_err-readable-clause-run c =
    rw (stops _ _ c.from_residual.ensures.1) (onward_err _ _ _ _ c.read_at.new.writer _ _ c.in_err-readable.ensures.run ∙ ap (leaves _) (sym (reads_turn c.args.self.size c.args.self.n c.loop-p.p c.loop-p.readable c.args.self.words.now c.loop-p.reader c.loop-p-test.true)) ∙ c.loop-p.invariant.run)

pub loop-p-preserved : goal.loop-p-preserved
loop-p-preserved c = record {
  run = onward_ok _ _ _ _ c.read_at.new.writer _ _ c.in_ok-readable.ensures.run _ refl ∙ ap (leaves _) (sym (reads_turn c.args.self.size c.args.self.n c.loop-p.p c.loop-p.readable c.args.self.words.now c.loop-p.reader c.loop-p-test.true)) ∙ c.loop-p.invariant.run;
  table = c.read_at.ensures.table ∙ c.loop-p.invariant.table;
}
