pub mod Changes
pub mod Keys
pub mod LayerEdits
pub mod LayerRows
pub mod ReadBack
pub mod Turns
pub mod Wanted
