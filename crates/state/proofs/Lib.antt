-- What is proved of the definitions, for this crate's proofs and for those above it.
pub mod Bools
pub mod LengthTable
pub mod Sheet
pub mod Schedules
pub mod Places
pub mod Window
pub mod RangesState
pub mod WordsCode
pub mod RangeCode
