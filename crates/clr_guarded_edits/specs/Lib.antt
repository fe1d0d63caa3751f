pub mod Fits
pub mod Laws
pub mod Records
pub mod Runs
pub mod SqlTexts
pub mod Statements
