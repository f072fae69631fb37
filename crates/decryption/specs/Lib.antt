pub mod Decrypt
pub mod Opened
