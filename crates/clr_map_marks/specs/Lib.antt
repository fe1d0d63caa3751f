pub mod LineMarks
pub mod Lines
pub mod Points
pub mod Tables
