pub mod CreateLemmas
pub mod LeafLemmas
pub mod LeanLemmas
pub mod OperationLemmas
