pub mod Areas
pub mod Details
pub mod Extents
pub mod Viewports
