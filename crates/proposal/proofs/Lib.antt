-- What is proved of the definitions, for this crate's proofs and for those above it.
pub mod TakenByProposal
pub mod Walk
pub mod ProposalCases
