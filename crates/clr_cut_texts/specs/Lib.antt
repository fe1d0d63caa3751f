pub mod CutTexts
pub mod Laws
pub mod Marks
pub mod Rows
