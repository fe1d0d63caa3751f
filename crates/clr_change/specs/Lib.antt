pub mod ChangeSets
pub mod Edits
