pub mod Proposal
pub mod Outcomes
pub mod Opened
