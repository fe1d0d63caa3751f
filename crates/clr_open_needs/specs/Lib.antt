pub mod Listing
pub mod OpenNeeds
