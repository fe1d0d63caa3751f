pub mod HeadingLemmas
pub mod InsetLemmas
