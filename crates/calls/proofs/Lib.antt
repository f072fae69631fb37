-- What is proved of the definitions, for this crate's proofs and for those above it.
pub mod CheckCases
pub mod Settled
pub mod ChecksApart
pub mod OperationCode
pub mod CallCode
