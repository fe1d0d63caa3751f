pub mod Faults
pub mod Headings
pub mod Layers
pub mod Metres
pub mod Pieces
pub mod ReadBack
pub mod TableRows
pub mod Wkt
