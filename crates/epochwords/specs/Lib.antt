pub mod Words
pub mod Shape
pub mod Batch
pub mod Opened
