pub mod Edits
pub mod Members
pub mod Placed
pub mod Ready
pub mod Trees
pub mod TwoTrees
