-- `table_ok` meets its contract. The invariant: some fuel that is enough is left, and what the definition says of the rest of the
-- chain is what it says of the whole. The measure is what is left of the words past the index. Assumes nothing.
use Rattle.std.proofs.Common.{refl, sym, ◌∙◌, ◌-◌, arith, length}
use Rattle.steps.specs.Table.{table_ok}
use Rattle.steps.proofs.TableCheck.{chain_end, chain_step}
use Rattle.answers.proofs.table_ok.Goals as goal

pub loop-next-init : goal.loop-next-init
loop-next-init c = (omega arith, (length c.args.answers.now, (omega arith, refl)))

pub returns-then-not-may_follow : goal.returns-then-not-may_follow
unfolding table_ok
returns-then-not-may_follow c = rw ((sym c.shape_ok.ensures.value ∙ c.if-not-shape_ok.false)) (sym (c.loop-next.invariant.1.1.1 ∙ chain_step _ c.args.answers.now c.loop-next.own c.loop-next.next c.loop-next.context c.loop-next.invariant.1.0 c.loop-next.invariant.1.1.0 c.loop-next.invariant.0 c.loop-next-test.true ∙ rw (sym c.may_follow.ensures.value ∙ c.if-not-may_follow.true)))

pub loop-next-preserved : goal.loop-next-preserved
loop-next-preserved c =
    let f = c.may_follow.ensures.inside c.if-not-may_follow.false in
    (omega (arith, f), (c.loop-next.invariant.1.0 - 1, (omega (arith, f), c.loop-next.invariant.1.1.1 ∙ chain_step _ c.args.answers.now c.loop-next.own c.loop-next.next c.loop-next.context c.loop-next.invariant.1.0 c.loop-next.invariant.1.1.0 c.loop-next.invariant.0 c.loop-next-test.true ∙ rw ((sym c.may_follow.ensures.value ∙ c.if-not-may_follow.false), c.context_after-context.ensures))))

pub returns : goal.returns
unfolding table_ok
returns c = rw ((sym c.shape_ok.ensures.value ∙ c.if-not-shape_ok.false)) (sym (c.loop-next.invariant.1.1.1 ∙ chain_end _ _ c.loop-next.own c.loop-next.next c.loop-next.context c.loop-next.invariant.1.0 c.loop-next-test.false))
