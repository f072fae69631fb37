pub mod Schedule
pub mod State
pub mod Shape
pub mod Opened
