pub mod HelperLaws
pub mod ListingLaws
