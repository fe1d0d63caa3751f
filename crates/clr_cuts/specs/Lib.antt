pub mod Audits
pub mod Cuts
pub mod Laws
pub mod Others
pub mod Passes
pub mod Reach
