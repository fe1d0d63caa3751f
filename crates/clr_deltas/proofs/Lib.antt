pub mod Answered
pub mod DifferenceLemmas
pub mod MarkLemmas
pub mod Meaning
pub mod NamedDeltaLemmas
pub mod Places
pub mod SweepLemmas
