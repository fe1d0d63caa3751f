pub mod FreeKeys
pub mod KeyLemmas
