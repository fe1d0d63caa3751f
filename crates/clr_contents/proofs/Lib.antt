pub mod ChangeLemmas
pub mod ComparedLemmas
pub mod LeanLemmas
pub mod MarkLemmas
pub mod MoveLemmas
pub mod SeenRowLemmas
pub mod ReadLemmas
pub mod SweepLemmas
