pub mod Causes
pub mod Changers
pub mod Labels
pub mod NeedCauses
pub mod OldErrors
pub mod Sentences
pub mod ServedNeeds
pub mod ToldRows
