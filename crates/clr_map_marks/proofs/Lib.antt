pub mod EachLemmas
pub mod ShapeLemmas
