pub mod Counted
pub mod Designs
pub mod FaultyLayers
pub mod Layers
pub mod ReadBack
pub mod Since
