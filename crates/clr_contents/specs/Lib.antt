pub mod SeenRows
pub mod Lean
pub mod Comparing
