pub mod Edits
pub mod Faults
pub mod Records
pub mod Scripts
