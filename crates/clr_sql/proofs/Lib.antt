mod Pieces
mod QuotingLemmas
mod Texts
