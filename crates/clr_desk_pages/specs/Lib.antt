pub mod Features
pub mod Maps
pub mod Reports
