-- What is proved of places in a ring, for the crates above it.
pub mod Places
