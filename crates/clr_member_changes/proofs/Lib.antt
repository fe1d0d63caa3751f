pub mod ChangerLemmas
