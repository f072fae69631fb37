-- What is proved of the definitions, for this crate's proofs and for those above it.
pub mod EntryCode
pub mod LimitsOfWords
pub mod EntryStored
pub mod Walk
pub mod Readable
pub mod BatchCode
pub mod RangeCode
