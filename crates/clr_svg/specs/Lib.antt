pub mod Elements
pub mod Escapes
pub mod Inks
pub mod Lengths
pub mod Numbers
pub mod Pages
