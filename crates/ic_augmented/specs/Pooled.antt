-- A table of links and a table of summaries can grow together.
use Rattle.std.specs.Prelude.{◌≡◌, ◌<◌, Option}
use Rattle.ic_link_ops.specs.Prelude.{Place, index_of}
use Rattle.ic_augmented.specs.Consistent.{IsSameAt}
use Rattle.ic_augmented.specs.Augmented.{links_of, summaries_of}
use Rattle.ic_augmented.specs.AugmentedTables.{joined, room_of, value_of}
use Rattle.ic_augmented.specs.declared.augmented_table.AugmentedTable.{AugmentedTable}
use Rattle.ic_augmented.specs.declared.augmented.Augmented.{Augmented}

-- BOTH TABLES MAY HAVE GROWN: the links are kept, each place keeps its value and its summary, and no room for a summary is lost
pub record GrowsSummed {L V S A : Type 0} (join : V → Option S → Option S → S) (initial : V) (Keeps : L → L → Type 0) (old new : Augmented L (AugmentedTable V S A)) : Type 0 where
  pub links : Keeps (links_of old) (links_of new)
  pub room : (p : Place) → index_of p < room_of (summaries_of old) → index_of p < room_of (summaries_of new)
  pub same : (p : Place) → IsSameAt (joined join initial (summaries_of old)) (joined join initial (summaries_of new)) p
  pub values : (p : Place) → value_of initial (summaries_of new) p ≡ value_of initial (summaries_of old) p
