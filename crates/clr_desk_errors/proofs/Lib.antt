pub mod Accepted
mod MendedLemmas
