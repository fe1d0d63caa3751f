pub mod Accepting
pub mod Mended
