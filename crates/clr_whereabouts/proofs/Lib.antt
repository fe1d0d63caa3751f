pub mod BetweenLemmas
pub mod GapLemmas
pub mod NearLemmas
pub mod ReachLemmas
