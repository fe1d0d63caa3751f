pub mod Laws
pub mod Merged
