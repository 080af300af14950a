-- Contracts describe a cursor that reads a tree by these definitions.
use Rattle.std.specs.Prelude.{Option}
use Rattle.ic_link_ops.specs.Prelude.{Place, CursorState, site}
use Rattle.ic_cursors.specs.declared.cursor.Cursor as any
use Rattle.ic_rbtree.specs.declared.tree.RBTree.{RBTree}
use Rattle.ic_rbtree.specs.Tree.{head_of}
pub use Rattle.ic_cursors.specs.Cursor.{links_of}

-- the type of the cursors that read a tree. `A` is the type of the tree's adapter, `L` the type of the table, `V` the type of the objects, and `H` the type of
-- the tree's head
abbrev pub Cursor : Type 0 → Type 0 → Type 0 → Type 0 → Type 0
Cursor A L V H = any.Cursor (RBTree A H) L V (Option Place) H

module _ {A L V H : Type 0} where
  -- the tree that the cursor reads
  abbrev pub tree_of : Cursor A L V H → RBTree A H
  tree_of c = c.list.now

  -- the member on which the cursor is, none if the cursor is at null
  abbrev pub position : Cursor A L V H → Option Place
  position c = c.current

  -- the cursor's state: the table that it reads, the head of the tree that it reads, and its position
  abbrev pub site_of : Cursor A L V H → CursorState L H
  site_of c = site (links_of c) (head_of (tree_of c)) (position c)
