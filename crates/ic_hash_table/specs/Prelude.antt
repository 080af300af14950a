-- This file declares nothing. It exports the names that most proofs about hash tables use.
pub use Rattle.ic_hash_table.specs.Chains.{AreChained, RepresentsFrom}
pub use Rattle.ic_hash_table.specs.HashTable.{BelongsIn, Holds, HoldsSome, IsNew, IsRepresented, adapter_of, front_at, number}
pub use Rattle.ic_hash_table.specs.Searches.{Finds, StopsAt, is_place, matches, passes}
pub use Rattle.ic_hash_table.specs.SideBySide.{AreSideBySide, HoldsSideBySide, same_key}
pub use Rattle.ic_hash_table.specs.Slots.{IsSplit, IsWellFormed, slot_of, split_of}
