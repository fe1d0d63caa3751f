pub mod CertificateAgain
pub mod EntryAgain
pub mod ItemTurns
pub mod NamedCertificates
pub mod TextLemmas
