pub mod Laws
pub mod OpenNeeds
pub mod Orders
pub mod Searching
