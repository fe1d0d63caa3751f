pub mod Designs
pub mod Places
pub mod Proposals
pub mod RoleModels
pub mod Roles
pub mod Searches
