pub mod Faults
pub mod Fields
pub mod Known
pub mod Lists
pub mod Rules
pub mod Seen
pub mod Values
