pub mod Pieces
pub mod Replies
pub mod Reports
pub mod Rows
pub mod Verdicts
