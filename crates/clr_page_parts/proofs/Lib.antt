mod ErrorLemmas
pub mod SectionLemmas
