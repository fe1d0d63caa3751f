mod GivenLemmas
mod Known
mod LayerLemmas
mod OriginLemmas
