pub mod HashIndex
pub mod HashLaws
