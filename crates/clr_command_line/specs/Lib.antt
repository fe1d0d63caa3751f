pub mod Asks
pub mod Program
pub mod Tables
