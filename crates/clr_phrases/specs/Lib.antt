pub mod Crossings
pub mod Lists
pub mod Meetings
pub mod Places
pub mod Rows
pub mod Rules
