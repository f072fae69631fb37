-- `with_bit` meets its contract: a bit that is not set can be added. Assumes nothing.
use Rattle.std.proofs.Common.{sym, ◌∙◌, rules}
use Rattle.steps.specs.Bits.{with_bit}
use Rattle.steps.proofs.BitLaws.{with_below, with_added}
use Rattle.steps.proofs.bits.with_bit.Goals as goal

pub returns-then-has_bit : goal.returns-then-has_bit
unfolding with_bit
returns-then-has_bit c = rw (sym c.has_bit.ensures ∙ c.if-has_bit.true)

pub overflow_add-result : goal.overflow_add-result
overflow_add-result c = rw (with_added c.args.x c.args.i c.requires (sym c.has_bit.ensures ∙ c.if-has_bit.false)) (record { fits = with_below 64 c.args.x c.args.i c.requires (search rules) })

pub returns : goal.returns
returns c = (with_added c.args.x c.args.i c.requires (sym c.has_bit.ensures ∙ c.if-has_bit.false))
