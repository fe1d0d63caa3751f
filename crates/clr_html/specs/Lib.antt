pub mod Blocks
pub mod Pages
pub mod Tables
pub mod Texts
pub mod Words
