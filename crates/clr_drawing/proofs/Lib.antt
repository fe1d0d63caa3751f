pub mod PathLemmas
pub mod TickLemmas
