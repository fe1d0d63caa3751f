pub mod Cuts
pub mod Edits
pub mod Proposals
