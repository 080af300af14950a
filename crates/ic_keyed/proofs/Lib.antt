pub mod KeyLemmas
pub mod RetainLemmas
