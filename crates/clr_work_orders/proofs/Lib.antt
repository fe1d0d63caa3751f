pub mod RemedyLemmas
pub mod Savepoints
pub mod TrialLemmas
