pub mod Devices
pub mod Separator
pub mod Shown
