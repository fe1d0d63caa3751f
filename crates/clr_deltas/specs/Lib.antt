pub mod Deltas
pub mod Differences
pub mod Differing
pub mod NamedDeltas
