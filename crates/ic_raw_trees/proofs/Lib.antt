pub mod TwoTrees
pub mod Checks
pub mod MarkedViews
