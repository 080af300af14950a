-- Four edits leave every summary fresh, and this file has the contract that they share.
use Rattle.std.specs.Prelude.{◌≡◌, Option, List, ◌++◌}
use Rattle.ic_link_ops.specs.Prelude.{Place, IsAbsent, IsDisjoint, Table}
use Rattle.ic_link_ops.specs.RedBlackTree.{Node, Represents}
use Rattle.ic_rbtree.specs.Kept.{Kept}
use Rattle.ic_rbtree.specs.Tree.{root_in, adapter_of}
use Rattle.ic_rbtree.specs.declared.tree.RBTree.{RBTree}
use Rattle.ic_augmented.specs.Beside.{IsWrittenWithin}
use Rattle.ic_augmented.specs.Consistent.{IsSameAt, RepresentsConsistent, RepresentsAugmented}
use Rattle.ic_augmented.specs.Augmented.{links_of, summaries_of}
use Rattle.ic_augmented.specs.Summaries.{Summaries}
use Rattle.ic_augmented.specs.declared.augmented.Augmented.{Augmented}

module _ {E S : Type 0} (n : E → Node) where
  -- the table represents s as the tree with the root `root`, and no member of s has a stale summary
  pub record RepresentsFresh (z : Summaries S) (v : Table E) (root : Option Place) (s : List Place) : Type 0 where
    -- each member stores the summary of its subtree, which every query requires
    pub summed : RepresentsAugmented n z v root s
    -- each fresh summary is right, which every edit and every recomputation requires
    pub consistent : RepresentsConsistent n z v root s

-- `kept` gives what the tree stores of its members, for example its root
module _ {A H N E M S : Type 0} (kept : H → Kept) (n : E → Node) (table : N → Table E) (summaries : M → Summaries S) (Covers : M → Place → Type 0) where
  -- an edit turns `tree` into `new_tree`. It keeps each other tree of the table that has neither members of `tree` nor places of `apart`. It may write the
  -- summaries of the members of `tree` and of the places in `written`
  pub record ChangesOnlyInTree (apart written : List Place) (tree new_tree : RBTree A H) (old new : Augmented N M) : Type 0 where
    -- each other tree is represented as before the edit, and each of its fresh summaries is right
    pub others : (s t : List Place) (other : Option Place) → Represents n (table (links_of old)) (root_in kept tree) s → IsDisjoint t (apart ++ s)
        → RepresentsConsistent n (summaries (summaries_of old)) (table (links_of old)) other t → RepresentsConsistent n (summaries (summaries_of new)) (table (links_of new)) other t
    -- if each parent that is stored in the tree is a member, as in a summed tree, each place outside the tree and `written` keeps its summary and its stored
    -- parent
    pub same : (s : List Place) → Represents n (table (links_of old)) (root_in kept tree) s → IsWrittenWithin (summaries (summaries_of old)) (written ++ s)
        → (q : Place) → IsAbsent q (written ++ s) → IsSameAt (summaries (summaries_of old)) (summaries (summaries_of new)) q
    -- the summary of a place is computed as before from its value and from the summaries of its two subtrees
    pub join : (summaries (summaries_of new)).join ≡ (summaries (summaries_of old)).join
    -- each place that had room for a summary before the edit has room for a summary after it
    pub covers : (q : Place) → Covers (summaries_of old) q → Covers (summaries_of new) q
    -- the table of links covers the same places as before the edit
    pub extent : (table (links_of new)).extent ≡ (table (links_of old)).extent
    -- the edited tree has the adapter that it had before
    pub adapter : adapter_of new_tree ≡ adapter_of tree
