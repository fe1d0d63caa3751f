pub mod CausePlaces
pub mod ChangeFeatures
pub mod PlanFeatures
pub mod RowFeatures
pub mod Turns
