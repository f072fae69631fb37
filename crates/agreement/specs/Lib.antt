pub mod History
pub mod Demand3
pub mod Outputs
pub mod Demand2
pub mod Operations
pub mod Opened
