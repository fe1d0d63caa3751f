pub mod Needs
pub mod Shorts
pub mod Whys
