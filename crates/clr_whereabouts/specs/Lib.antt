pub mod Crossings
pub mod Gaps
pub mod Whereabouts
pub mod Words
