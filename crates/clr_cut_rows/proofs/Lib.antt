pub mod NearLemmas
pub mod SearchLemmas
pub mod StandingLemmas
