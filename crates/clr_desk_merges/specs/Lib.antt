pub mod Checks
pub mod Merges
pub mod Waiting
