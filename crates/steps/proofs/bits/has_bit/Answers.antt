-- `has_bit` meets its contract: a shift is a quotient. Assumes nothing.
use Rattle.std.proofs.Common.{refl}
use Rattle.steps.specs.Bits.{has_bit}
use Rattle.steps.proofs.bits.has_bit.Goals as goal

pub returns : goal.returns
unfolding has_bit
returns c = refl
