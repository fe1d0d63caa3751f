pub mod LeanLemmas
pub mod LiveLemmas
pub mod ModelLemmas
pub mod RebaseLemmas
pub mod SweepLemmas
