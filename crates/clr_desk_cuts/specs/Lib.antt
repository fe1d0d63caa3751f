pub mod Inquiries
pub mod Listed
pub mod Members
pub mod Reach
