pub mod Laws
pub mod Searches
pub mod Standings
