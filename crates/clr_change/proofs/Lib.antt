pub mod ConflictLemmas
pub mod EditLemmas
pub mod SetLemmas
