pub mod Marks
pub mod Workspaces
pub mod Roots
pub mod Operations
pub mod Soundness
