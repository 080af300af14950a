-- Facts about a tree with counts, which each insert of a test maintains. The test inserts objects in the order of their places, and the count of each
-- member stays fresh.
use Rattle.std.specs.Prelude.{◌≡◌, ◌<◌, ◌≤◌, ℕ, ⊤, Option, None, List}
use Rattle.ic_link_ops.specs.Prelude.{Place, index_of, Table, IsCovered, Node, times_in}
use Rattle.ic_augmented.specs.Prelude.{links_of, summaries_of, room_of, RepresentsAugmented, counts}
use Rattle.ic_augmented.specs.declared.augmented.Augmented.{Augmented}
use Rattle.ic_augmented.specs.declared.augmented_table.AugmentedTable.{AugmentedTable}

module _ {N E A : Type 0} (n : E → Node) (table : N → Table E) where
  -- the tree is summed, its members are at places with an index below `k`, and the count of each place with the index `k` or a higher index is stale. The
  -- table covers four places, each with room for a count
  pub record IsFilled (root : Option Place) (summed : Augmented N (AugmentedTable ⊤ ℕ A)) (k : ℕ) : Type 0 where
    pub covers : (table (links_of summed)).extent.places ≡ 4
    pub room : (q : Place) → IsCovered (table (links_of summed)) q → index_of q < room_of (summaries_of summed)
    pub members : List Place
    pub below : (q : Place) → 1 ≤ times_in q members → index_of q < k
    pub shown : RepresentsAugmented n (counts (summaries_of summed)) (table (links_of summed)) root members
    pub stale : (q : Place) → k ≤ index_of q → (counts (summaries_of summed)).fresh q ≡ None
