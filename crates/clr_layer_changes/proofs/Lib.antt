pub mod EditLemmas
pub mod FitLemmas
pub mod KeyLemmas
pub mod LayersAgain
pub mod NotedLemmas
pub mod TurnLemmas
pub mod UnitedLemmas
