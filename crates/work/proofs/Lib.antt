-- What is proved of the definitions, for this crate's proofs and for those above it.
pub mod Walk
pub mod Updates
pub mod Skips
pub mod ClearingIsSkipping
pub mod CommitCode
pub mod LoopOnlyReads
pub mod RunBesideState
pub mod FailureNumbers
pub mod WorkRanges
pub mod RunLeaves
pub mod BatchTurnCode
pub mod RunCode
pub mod Bounded
