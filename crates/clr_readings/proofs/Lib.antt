pub mod FaultTurns
pub mod Fronts
