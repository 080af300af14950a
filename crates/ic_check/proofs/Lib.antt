mod Checking
mod HashTables
mod Subtrees
mod Marking
mod MarkedWalks
mod SortedTrees
mod TreeWalks
