pub mod Axis
pub mod Bounding
pub mod Laws
pub mod Searches
pub mod Segments
pub mod Sizes
pub mod Turns
