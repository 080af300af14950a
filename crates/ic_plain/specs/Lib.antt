pub mod SinglyEntries
pub mod XorEntries
pub mod SortedTrees
pub mod ListEdits
pub mod TreeEdits
