pub mod DraftLemmas
pub mod FoundLemmas
pub mod RemarkLemmas
