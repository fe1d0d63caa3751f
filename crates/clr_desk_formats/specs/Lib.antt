pub mod Formats
pub mod LineEnds
pub mod LinedTexts
