-- A subtree of a represented tree, and the rest of the tree around it.
use Rattle.std.specs.Prelude.{◌≤◌, List, length}
use Rattle.ic_link_ops.specs.Prelude.{Place, Table, Node, IsTree, times, Tree, top, in_order}
use Rattle.ic_link_ops.specs.Frames.{Frame, plug, above, IsAround}
use Rattle.ic_rbtree.specs.Height.{height}

module _ {E : Type 0} (n : E → Node) where
  -- t is a subtree of a larger tree: the frames `fs` are the steps down from the root of the larger tree to t, the lowest first. No place occurs twice in the
  -- larger tree. It has at most 66 levels, as each red-black tree has, and no more members than there are places
  pub record IsSubtree (v : Table E) (fs : List Frame) (t : Tree) : Type 0 where
    pub around : IsAround n v.entry fs (top t)
    pub tree : IsTree n v.entry (above fs) t
    pub once : (q : Place) → times q (plug fs t) ≤ 1
    pub low : height (plug fs t) ≤ 66
    pub few : length (in_order (plug fs t)) ≤ 8589934591
