pub mod Fitting
pub mod DeltaParts
pub mod NameTurns
pub mod PlacePairs
pub mod PutBack
pub mod WorkspaceTurns
