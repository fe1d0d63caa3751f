pub mod FilingLemmas
pub mod GainLemmas
pub mod IndexLemmas
pub mod Indexes
pub mod NextLemmas
pub mod Noting
pub mod SetLemmas
pub mod SpotLemmas
