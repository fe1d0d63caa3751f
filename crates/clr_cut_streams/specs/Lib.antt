pub mod Faults
pub mod Laws
pub mod Passes
pub mod Seen
pub mod Sinks
pub mod Told
