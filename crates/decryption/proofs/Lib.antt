-- What is proved of the definitions, for this crate's proofs and for those above it.
pub mod ShareCode
pub mod CycleCode
pub mod MessageCode
pub mod Walk
pub mod ReadsFirstPart
pub mod Errors
pub mod Ranges
pub mod Bounded
pub mod DecryptionCases
