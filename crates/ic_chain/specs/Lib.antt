pub mod IntoIter
pub mod Iter
pub mod Laws
pub mod LentLists
pub mod ListEdits
pub mod SplitEnds
pub mod Standing
pub mod Walk
