pub mod Conditions
pub mod Laws
pub mod Quoting
pub mod Relations
pub mod Shapes
pub mod Values
