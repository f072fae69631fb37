-- `build` meets its contract, case by case. Assumes nothing.
use Rattle.std.proofs.Common.{refl, eq-eqb, ne_eqb}
use Rattle.steps.proofs.LentRuns.{heard_ok, heard_err, stops}
use Rattle.work.specs.Work.{built}
use Rattle.work.proofs.honey_badger.build.Goals as goal

pub returns-in_err-a : goal.returns-in_err-a
unfolding built
returns-in_err-a c =
    rw (stops _ _ c.from_residual.ensures.1, eq-eqb _ _ c.if-words-ne-STATUS_VACANT.false) (heard_err _ _ _ _ _ c.in_err-a.ensures)

pub returns-then-a-eq0 : goal.returns-then-a-eq0
unfolding built
returns-then-a-eq0 c = rw (eq-eqb _ _ c.if-words-ne-STATUS_VACANT.false) (heard_ok _ c.args.words.now _ _ _ c.in_ok-a.ensures _ (rw c.if-a-eq0.true refl))

pub returns : goal.returns
unfolding built
returns c = rw (eq-eqb _ _ c.if-words-ne-STATUS_VACANT.false) (heard_ok _ c.args.words.now _ _ _ c.in_ok-a.ensures _ (rw (ne_eqb _ _ c.if-a-eq0.false, c.new_epoch.ensures) refl))
