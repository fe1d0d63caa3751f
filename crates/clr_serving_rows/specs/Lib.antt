pub mod NeedPlaces
pub mod Servers
