pub mod CountedLemmas
pub mod LayerLemmas
pub mod LayersAgain
pub mod OpenedLemmas
mod RelaidLemmas
mod SchemaLemmas
pub mod ScriptLemmas
mod SinceLemmas
