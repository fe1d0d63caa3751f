pub mod Answers
pub mod Blocked
pub mod Covering
pub mod Sides
