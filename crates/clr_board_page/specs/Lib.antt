pub mod Boards
pub mod Clashes
pub mod Designs
pub mod Heads
pub mod Links
pub mod Orders
pub mod Said
pub mod States
