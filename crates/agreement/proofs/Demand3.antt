-- DEMAND 3, proved: the claim of specs/Demand3.antt about two whole lists of calls. Assumes nothing.
use Rattle.epoch.proofs.Invariant.{Holds}
use Rattle.epoch.proofs.EpochLaws.{epoch_laws}
use Rattle.agreement.specs.Demand3.{TwoRuns}
use Rattle.agreement.proofs.TwoRuns.{two_runs}

pub agreement : TwoRuns
agreement = two_runs Holds epoch_laws
