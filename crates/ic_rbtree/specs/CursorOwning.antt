-- Contracts describe a cursor that owns its tree by these definitions.
use Rattle.std.specs.Prelude.{Option}
use Rattle.ic_link_ops.specs.Prelude.{Place, CursorState, site}
use Rattle.ic_cursors.specs.declared.cursor_owning.CursorOwning as any
use Rattle.ic_rbtree.specs.declared.tree.RBTree.{RBTree}
use Rattle.ic_rbtree.specs.Tree.{head_of}

-- the type of the cursors that own their tree. `A` is the type of the tree's adapter, `V` the type of the objects, and `H` the type of the tree's head
abbrev pub CursorOwning : Type 0 → Type 0 → Type 0 → Type 0
CursorOwning A V H = any.CursorOwning (RBTree A H) V (Option Place) H

module _ {A V H : Type 0} where
  -- the tree that the cursor owns
  abbrev pub tree_of : CursorOwning A V H → RBTree A H
  tree_of c = c.list

  -- the member on which the cursor is, none if the cursor is at null
  abbrev pub position : CursorOwning A V H → Option Place
  position c = c.current

  -- the cursor's state: the table that a call takes, the head of the tree that the cursor owns, and the cursor's position
  abbrev pub site_of : {L : Type 0} → L → CursorOwning A V H → CursorState L H
  site_of links c = site links (head_of (tree_of c)) (position c)
