pub mod Going
pub mod PassLaws
pub mod TellingOn
