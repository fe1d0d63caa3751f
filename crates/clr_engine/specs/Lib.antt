pub mod BrokenNow
pub mod Drafts
pub mod Fitting
pub mod KeptContents
pub mod Performed
pub mod Trees
