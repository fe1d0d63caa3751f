pub mod ErrorFeatures
pub mod ErrorLines
