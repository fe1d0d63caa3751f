pub mod CleanLemmas
pub mod CountLemmas
pub mod HadLemmas
pub mod OfficeLemmas
