pub mod ChoiceLines
pub mod Clearable
pub mod Looked
pub mod Progress
pub mod Trials
