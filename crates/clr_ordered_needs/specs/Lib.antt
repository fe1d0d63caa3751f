pub mod Covers
pub mod Helpers
pub mod Later
pub mod Laws
pub mod Positions
pub mod States
pub mod Turns
