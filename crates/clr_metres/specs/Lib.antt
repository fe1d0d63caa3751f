pub mod Metres
