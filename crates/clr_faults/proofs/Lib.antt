pub mod FirstLaws
pub mod Firsts
pub mod InWorkspaces
pub mod KnownFaultLemmas
pub mod Lost
pub mod PlacedItems
pub mod UnreadRules
pub mod Values
