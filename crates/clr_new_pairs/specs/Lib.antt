pub mod NewPairs
