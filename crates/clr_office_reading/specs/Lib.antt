pub mod Cells
pub mod Fits
pub mod Offices
pub mod Patches
pub mod Tables
pub mod Workspaces
