pub mod Decimals
pub mod Records
pub mod Values
pub mod Writing
