pub mod Frames
pub mod HeadingLines
pub mod Headings
pub mod Insets
