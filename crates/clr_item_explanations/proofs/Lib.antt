pub mod ItemLemmas
pub mod ListLemmas
pub mod NeedLemmas
pub mod TellingLemmas
pub mod ValueLemmas
