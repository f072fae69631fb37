pub mod Words
pub mod Subset
pub mod Bits
pub mod Outcomes
pub mod Opened
pub mod Rule
