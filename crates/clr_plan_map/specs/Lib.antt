pub mod LabelWords
pub mod Maps
pub mod Sentences
pub mod Turns
