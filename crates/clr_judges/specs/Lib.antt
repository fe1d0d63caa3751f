pub mod BrokenNeeds
pub mod Fitting
pub mod KeptContents
pub mod Unheld
