pub mod BrokenNeeds
pub mod Clashes
pub mod Keeping
pub mod Laws
pub mod ListedClashes
