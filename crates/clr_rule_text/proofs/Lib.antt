pub mod EachIn
pub mod JsonSeen
pub mod KnownLemmas
