mod AgainLemmas
mod HintLemmas
mod MadeLemmas
mod MovedLemmas
mod TurnLemmas
