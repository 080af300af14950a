-- Facts about a tree with summaries, which each call of a test maintains: its summaries are fresh, and there is room for a summary at each place of the
-- table.
use Rattle.std.specs.Prelude.{Option, ℕ, ◌<◌, List}
use Rattle.ic_link_ops.specs.Prelude.{Place, index_of, Objects, Table, IsCovered}
use Rattle.ic_link_ops.specs.RedBlackTree.{Node, Represents}
use Rattle.ic_rbtree.specs.Prelude.{RepresentsSorted, root_of}
use Rattle.ic_rbtree.specs.declared.tree.RBTree.{RBTree}
use Rattle.ic_augmented.specs.Prelude.{RepresentsConsistent, RepresentsAugmented, greatest, Summaries, room_of, links_of, summaries_of}
use Rattle.ic_augmented.specs.declared.augmented_table.AugmentedTable.{AugmentedTable}
use Rattle.ic_augmented.specs.declared.augmented.Augmented.{Augmented}

module _ {N M E S A : Type 0} (n : E → Node) (table : N → Table E) (summaries : M → Summaries S) (Covers : M → Place → Type 0) where
  -- the table represents `members` for the tree, all summaries of the members are fresh and right, and each covered place has room for a summary. So the
  -- tree is ready for reads and edits
  pub record IsReady (tree : RBTree A (Option Place)) (summed : Augmented N M) : Type 0 where
    pub members : List Place
    pub shown : RepresentsAugmented n (summaries (summaries_of summed)) (table (links_of summed)) (root_of tree) members
    pub consistent : RepresentsConsistent n (summaries (summaries_of summed)) (table (links_of summed)) (root_of tree) members
    pub room : (q : Place) → IsCovered (table (links_of summed)) q → Covers (summaries_of summed) q

-- the tree is ready for reads and edits, and its members are intervals, in the order of their starts. The start of a member is its key, and its end is its
-- number in the table of summaries
module _ {N E A B : Type 0} (n : E → Node) (table : N → Table E) (starts : N → Objects ℕ) where
  pub record AreIntervals (tree : RBTree A (Option Place)) (summed : Augmented N (AugmentedTable ℕ ℕ B)) : Type 0 where
    pub ready : IsReady n table greatest (λ summaries q. index_of q < room_of summaries) tree summed
    pub sorted : RepresentsSorted (λ (start : ℕ). start) (Represents n (table (links_of summed)) (root_of tree)) (starts (links_of summed))
