pub mod Epoch
pub mod Outcomes
pub mod Orders
pub mod Opened
