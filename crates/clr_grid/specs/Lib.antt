pub mod CellSets
pub mod Filing
pub mod Finders
pub mod Gains
pub mod NextCells
pub mod SpotNumbers
