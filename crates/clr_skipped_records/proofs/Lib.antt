mod SoundLemmas
mod SplitLemmas
mod WalkLemmas
