pub use Rattle.clr_plan_map.specs.Maps
pub mod Causes
pub mod Clashes
pub mod Designs
pub mod Needs
pub mod Reasons
pub mod Reports
