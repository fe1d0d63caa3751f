pub mod BuildLemmas
pub mod FaultLemmas
pub mod DeltaLemmas
pub mod MarkLemmas
pub mod PartLemmas
