-- `epoch_in_range` meets its contract. The invariant: what was found so far, and the small words of the records from here on. Assumes nothing.
use Rattle.std.proofs.Common.{◌∙◌, arith}
use Rattle.std.proofs.lemmas.Nat.{one_shl}
use Rattle.epochwords.proofs.RangeCode.{epoch_code, epoch_vacant, smalls_turn, smalls_over}
use Rattle.epochwords.proofs.range.epoch_in_range.Goals as goal

pub returns-then-joined-eq0 : goal.returns-then-joined-eq0
returns-then-joined-eq0 c = rw (c.most_kept-most.ensures, one_shl c.args.n 64 (omega (arith, c.requires.few)))
    (epoch_vacant c.args.strategy c.args.n c.args.epoch.now c.join-reserved.result c.join-joined.result c.requires c.join-reserved.ensures c.join-joined.ensures c.if-joined-eq0.true)

pub loop-p-preserved : goal.loop-p-preserved
loop-p-preserved c = rw c.small_in_range-ok.ensures (smalls_turn c.args.n c.args.epoch.now c.loop-p.ok c.loop-p.p c.loop-p-test.true) ∙ c.loop-p.invariant

pub returns : goal.returns
returns c = smalls_over c.args.n c.args.epoch.now c.loop-p.ok c.loop-p.p c.loop-p-test.false ∙ c.loop-p.invariant
    ∙ rw (c.most_kept-most.ensures, one_shl c.args.n 64 (omega (arith, c.requires.few)))
    (epoch_code c.args.strategy c.args.n c.args.epoch.now c.join-reserved.result c.join-joined.result c.requires c.join-reserved.ensures c.join-joined.ensures)
