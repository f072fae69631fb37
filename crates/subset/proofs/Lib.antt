-- What is proved of the definitions, for this crate's proofs and for those above it.
pub mod Counts
pub mod ProposalStored
pub mod Walk
pub mod Invariant
pub mod TakenTests
pub mod TakenByCall
pub mod Rule
pub mod SubsetCases
pub mod WorkedRun
pub mod Ranges
pub mod VotesAsked
pub mod Bounded
pub mod Bits
pub mod WordsCode
pub mod SubsetCode
