pub mod Keys
pub mod Laws
pub mod Lines
pub mod Rows
pub mod Splits
pub mod Splitting
