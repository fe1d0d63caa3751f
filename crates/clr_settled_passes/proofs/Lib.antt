pub mod SettlingLaws
