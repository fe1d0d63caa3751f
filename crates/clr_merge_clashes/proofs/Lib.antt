mod Causes
mod FreeSets
pub mod Lists
mod LookedLaw
mod PartMergeSets
pub mod PartPlaces
pub mod PlanLaw
mod SetLaws
mod Sharing
