-- What is proved of the definitions, for this crate's proofs and for those above it.
pub mod Demand1
pub mod CreateCode
pub mod FaultCount
pub mod Received
pub mod BenchCases
pub mod FurtherCases
pub mod QueryCode
