pub mod Certificates
pub mod Faults
pub mod MemberChanges
pub mod MergeSetNames
pub mod MergeSets
pub mod Plans
pub mod PositionPairs
