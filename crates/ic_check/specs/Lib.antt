pub mod Checked
pub mod HashTables
pub mod Joined
pub mod Subtrees
pub mod WholeTables
