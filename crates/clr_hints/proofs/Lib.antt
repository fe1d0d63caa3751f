pub mod BlankLemmas
pub mod Examples
pub mod LineLemmas
pub mod MetresLemmas
pub mod NearestLemmas
pub mod QuotedLemmas
pub mod SentenceLemmas
