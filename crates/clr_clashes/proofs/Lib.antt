mod Adding
mod BrokenLists
mod BrokenParts
mod ClashLaws
pub mod Kept
mod ListedLaws
mod Lists
mod PartNeeds
mod PickThere
