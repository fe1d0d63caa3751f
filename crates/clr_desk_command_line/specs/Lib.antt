pub mod Asks
pub mod Databases
