pub mod Answers
pub mod Choosing
pub mod Laws
pub mod Pairs
pub mod Places
pub mod Renumbering
pub mod Searching
