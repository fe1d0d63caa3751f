pub mod Meeting
pub mod PartServers
pub mod RoleFiling
pub mod Searches
pub mod Unknown
