pub mod OneOutcome
pub mod Outcomes
pub mod WorkspaceLines
