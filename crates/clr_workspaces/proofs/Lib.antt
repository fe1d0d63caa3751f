pub mod CountLemmas
pub mod DepthLemmas
pub mod FindLemmas
pub mod LeafLemmas
pub mod NameLemmas
pub mod RootLemmas
pub mod SoundLemmas
pub mod TreeLemmas
