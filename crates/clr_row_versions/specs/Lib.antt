pub mod Candidates
pub mod Changers
pub mod Gains
pub mod Naming
pub mod RootVersions
pub mod Serving
pub mod Versions
