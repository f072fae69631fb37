pub mod Create
pub mod Shape
pub mod Demand1
pub mod Opened
