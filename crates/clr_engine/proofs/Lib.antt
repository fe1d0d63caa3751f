pub mod Answered
pub mod BrokenNow
pub mod Dispatch
pub mod Positions
pub mod Readings
pub mod Served
pub mod Steps
pub mod Unheld
