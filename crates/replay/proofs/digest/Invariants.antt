-- The sum is below the modulus, so that the next one stays below 2^32 × 65,600.
use Rattle.std.proofs.Common.{◌<◌}
use Rattle.replay.proofs.digest.Given as goal

abbrev pub invariant-loop-word : goal.invariant-loop-word
invariant-loop-word l = l.h < 4294967291
