pub mod Certificates
pub mod Faults
pub mod Texts
pub mod Versions
