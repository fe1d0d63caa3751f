pub mod Covers
pub mod Entries
pub mod Late
pub mod ListedCovers
