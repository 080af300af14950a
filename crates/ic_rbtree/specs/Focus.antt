-- A tree is described by one of its subtrees, the subtree in focus, and by the frames above this subtree. A frame is one step down the tree: a side, the member
-- above, the member's color, and its other subtree.
use Rattle.std.specs.Prelude.{Option, List}
use Rattle.ic_link_ops.specs.Prelude.{Place, Table, Tree, Node}
use Rattle.ic_link_ops.specs.Frames.{Frame}
use Rattle.ic_rbtree.specs.Pieces.{Piece, ClimbState, Represented}

-- A TREE WITH A SUBTREE IN FOCUS: `base` is the old table, `sequence` has the tree's members in order, `frames` are the frames above the subtree, and `pieces`
-- are the pieces of the table beside the tree
pub record Focus (E : Type 0) : Type 0 where
  pub base : Table E
  pub sequence : List Place
  pub frames : List Frame
  pub subtree : Tree
  pub pieces : List Piece

module _ {E : Type 0} (n : E → Node) where
  -- the table v has a tree with the root `root`, in which the subtree of k is below the frames of k
  abbrev pub IsInFocus : Table E → Option Place → Focus E → Type 0
  IsInFocus v root k = ClimbState n k.base v root k.frames k.subtree k.pieces

  -- THE TREE IS RIGHT: the table v has a tree of the right shape with the root `root`, and the tree has the sequence of k
  abbrev pub IsRestored : Table E → Option Place → Focus E → Type 0
  IsRestored v root k = Represented n k.base v root k.sequence k.pieces
