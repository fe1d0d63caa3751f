pub mod Helpers
pub mod FailedTests
pub mod Laws
