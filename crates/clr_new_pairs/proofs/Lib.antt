pub mod NewPairLaws
