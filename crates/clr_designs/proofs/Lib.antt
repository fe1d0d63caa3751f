mod AgainLemmas
mod ContentLemmas
mod CountLemmas
pub mod DesignLemmas
mod EditAgain
pub mod EditLemmas
pub mod LiveLemmas
pub mod PerformLemmas
mod ScriptAgain
pub mod SinceLemmas
