pub mod Builders
pub mod Extents
pub mod HashTables
pub mod Intervals
pub mod Positions
pub mod Ready
pub mod TwoTrees
