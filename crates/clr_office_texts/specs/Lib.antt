pub mod BrokenNow
pub mod Drafts
pub mod Laws
pub mod Writing
