-- This file declares nothing. It exports the names that most proofs about trees with summaries use.
pub use Rattle.ic_augmented.specs.Augmented.{links_of, summaries_of}
pub use Rattle.ic_augmented.specs.AugmentedTables.{blank, joined_in, or_zero, room_of}
pub use Rattle.ic_augmented.specs.Consistent.{IsConsistent, IsConsistentBelow, IsConsistentBut, IsConsistentTree, IsJoined, IsSameAt, Refreshes, RepresentsAugmented, RepresentsConsistent}
pub use Rattle.ic_augmented.specs.Counts.{counts}
pub use Rattle.ic_augmented.specs.Greatest.{greatest, number_at}
pub use Rattle.ic_augmented.specs.Intervals.{overlaps, start_in}
pub use Rattle.ic_augmented.specs.MarkLaws.{inside_still, marks_still}
pub use Rattle.ic_augmented.specs.Summaries.{Invalidates, IsSummed, Summaries, Writes, WritesNoSummary, is_fresh, seen, total}
