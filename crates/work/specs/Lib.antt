pub mod HoneyBadger
pub mod Work
pub mod Shape
pub mod SkipLaws
pub mod Opened
