pub mod CertificateFirsts
pub mod EditsLeft
pub mod Firsts
pub mod PlainSteps
pub mod RecordLemmas
pub mod ScriptFirsts
pub mod SlipLemmas
