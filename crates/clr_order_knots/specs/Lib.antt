pub mod Knots
pub mod Members
pub mod OpenNeeds
pub mod Peeling
pub mod Places
pub mod Waiting
