pub mod Entering
mod Folds
mod Known
