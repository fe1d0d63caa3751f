pub mod Boards
pub mod Laws
pub mod Settling
pub mod States
