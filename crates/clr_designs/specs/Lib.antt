pub mod Again
pub mod Counts
pub mod Designs
pub mod Laws
pub mod ReadBack
pub mod Scripts
pub mod Since
