pub mod Headlines
pub mod Laws
pub mod MergeSets
pub mod Runs
pub mod Safety
pub mod Turns
pub mod VerdictLaws
pub mod Verdicts
