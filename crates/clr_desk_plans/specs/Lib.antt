pub mod Certificates
pub mod Choices
pub mod InOrder
pub mod Orders
