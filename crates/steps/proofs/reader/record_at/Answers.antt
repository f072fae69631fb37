-- `record_at` meets its contract: no record at 0 or past the table, else the record. Assumes nothing.
use Rattle.std.proofs.Common.{sym, arith}
use Rattle.steps.specs.Answers.{link}
use Rattle.steps.proofs.ChainLaws.{on_record_lem, off_at_zero, off_past}
use Rattle.steps.proofs.ReaderCode.{first_off, first_on}
use Rattle.steps.proofs.reader.record_at.Goals as goal

pub returns-then-place-eq0 : goal.returns-then-place-eq0
returns-then-place-eq0 c = sym (first_off c.args.answers.now c.args.place (rw c.if-place-eq0.true (off_at_zero c.args.answers.now)))

pub returns-then-last-place : goal.returns-then-last-place
returns-then-last-place c = sym (first_off c.args.answers.now c.args.place (off_past c.args.answers.now c.args.place (omega (arith, c.requires))))

pub returns : goal.returns
unfolding link
returns c = rw c.link.ensures (sym (first_on c.args.answers.now c.args.place (on_record_lem c.args.answers.now c.args.place (omega arith) (omega (arith, c.requires)))))
