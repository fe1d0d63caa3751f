pub mod Labels
pub mod Metres
pub mod Palette
pub mod Paths
pub mod Signs
pub mod Sketches
pub mod Ticks
