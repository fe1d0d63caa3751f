mod ClearableLaws
mod Holding
mod Looking
pub mod TrialLists
mod Trying
