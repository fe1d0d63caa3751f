pub mod Answers
pub mod Cases
pub mod Entries
pub mod Lives
pub mod TextChecks
pub mod Turns
