pub mod Columns
pub mod FieldPlaces
pub mod FoundFaults
pub mod KeySets
pub mod LayerFaultLines
pub mod Refusals
pub mod UnfitLines
