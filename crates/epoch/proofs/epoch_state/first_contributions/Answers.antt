-- `first_contributions` meets its contract. The invariant: cutting from here on leaves what cutting from the start leaves; the list stays one.
-- Assumes nothing.
use Rattle.std.proofs.Common.{sym, ◌∙◌, arith}
use Rattle.subset.specs.Words.{count_of}
use Rattle.epoch.proofs.ContributionCode.{listed_cut, cut_turn}
use Rattle.epoch.proofs.epoch_state.first_contributions.Goals as goal

pub loop-i-preserved : goal.loop-i-preserved
loop-i-preserved c = record {
  long = c.drop_contribution.auto.epoch ∙ c.loop-i.invariant.long;
  listed = rw c.drop_contribution.ensures (listed_cut c.args.n c.loop-i.i c.loop-i.epoch (omega (arith, c.loop-i-test.true, c.requires.1.count)) c.loop-i.invariant.listed);
  cut = rw c.drop_contribution.ensures (sym (cut_turn c.args.n (count_of c.args.epoch.now) c.loop-i.i c.loop-i.epoch c.loop-i-test.true) ∙ c.loop-i.invariant.cut);
}
