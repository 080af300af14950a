pub mod AllKinds
pub mod Reading
pub mod OwnTrees
pub mod Made
pub mod Editing
pub mod KeyedEdits
pub mod Common
