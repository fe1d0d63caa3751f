pub mod BrokenAsListed
pub mod CoveredAsListed
pub mod EntryLaws
pub mod LateLaws
pub mod PairCovers
pub mod Picked
