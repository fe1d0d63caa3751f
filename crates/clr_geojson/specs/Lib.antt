pub mod Collections
pub mod Features
pub mod Laws
pub mod Properties
