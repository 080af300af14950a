-- A table represents a tree, and this file describes one subtree of it and the path above the subtree.
use Rattle.std.specs.Prelude.{◌≤◌, List, length}
use Rattle.ic_link_ops.specs.Prelude.{Place, Table, Node, IsTree, times, Tree, top, in_order}
use Rattle.ic_link_ops.specs.Frames.{Frame, plug, above, IsAround}
use Rattle.ic_rbtree.specs.Height.{height}

module _ {E : Type 0} (n : E → Node) where
  -- THE SUBTREE t is below the path `fs` in a tree which has no place twice, a height of at most 66, and no more members than there are places
  pub record IsSubtree (v : Table E) (fs : List Frame) (t : Tree) : Type 0 where
    pub around : IsAround n v.entry fs (top t)
    pub tree : IsTree n v.entry (above fs) t
    pub once : (q : Place) → times q (plug fs t) ≤ 1
    pub low : height (plug fs t) ≤ 66
    pub few : length (in_order (plug fs t)) ≤ 8589934591
