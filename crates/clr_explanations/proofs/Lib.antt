pub mod FieldLemmas
pub mod NamedFaults
pub mod PathLemmas
pub mod RepeatedLemmas
pub mod StandingLemmas
pub mod Values
