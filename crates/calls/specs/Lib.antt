pub mod Calls
pub mod Refusals
pub mod Checks
pub mod Shape
pub mod Opened
