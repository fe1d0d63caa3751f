mod Codes
pub mod Made
pub mod OneHint
pub mod OpeningLemmas
pub mod PrintLemmas
