pub mod CellBounds
pub mod CellLists
pub mod Laws
pub mod NextCells
pub mod RowMaps
pub mod Sharing
