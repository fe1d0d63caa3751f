pub mod Books
pub mod Calls
pub mod Faults
pub mod Fitting
pub mod Laws
pub mod Needs
pub mod Roles
pub mod Sides
