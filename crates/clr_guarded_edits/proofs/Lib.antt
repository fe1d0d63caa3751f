pub mod Cells
pub mod Firsts
pub mod RunLemmas
pub mod SameShapes
pub mod TextLemmas
pub mod Triples
pub mod Turns
