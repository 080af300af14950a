-- Contracts describe a cursor that edits a tree by these definitions.
use Rattle.std.specs.Prelude.{◌≡◌, Option}
use Rattle.std.specs.Borrow.{MutBor}
use Rattle.ic_link_ops.specs.Prelude.{Place, CursorState, site}
use Rattle.ic_cursors.specs.declared.cursor_mut.CursorMut as any
use Rattle.ic_rbtree.specs.declared.tree.RBTree.{RBTree}
use Rattle.ic_rbtree.specs.Tree.{head_of, adapter_of}
pub use Rattle.ic_cursors.specs.CursorMut.{links_of, IsBorrowed, SameBorrows, Stays}

-- the type of the cursors that edit a tree. `A` is the type of the tree's adapter, `L` the type of the table, `V` the type of the objects, and `H` the type of
-- the tree's head
abbrev pub CursorOf : Type 0 → Type 0 → Type 0 → Type 0 → Type 0
CursorOf A L V H = any.CursorMut (RBTree A H) L V (Option Place) H

-- the type of the cursors that edit a tree which stores its root alone
abbrev pub CursorMut : Type 0 → Type 0 → Type 0 → Type 0
CursorMut A L V = CursorOf A L V (Option Place)

module _ {A L V H : Type 0} where
  -- the tree that the cursor edits
  abbrev pub tree_of : CursorOf A L V H → RBTree A H
  tree_of c = c.list.now

  -- the member on which the cursor is, none if the cursor is at null
  abbrev pub position : CursorOf A L V H → Option Place
  position c = c.current

  -- the cursor's state: the table that it edits, the head of the tree that it edits, and its position
  abbrev pub site_of : CursorOf A L V H → CursorState L H
  site_of c = site (links_of c) (head_of (tree_of c)) (position c)

  -- the cursor edits the borrowed tree `tree` and the borrowed table `links`, and the tree in the cursor has the adapter of `tree`
  abbrev pub SameNames : MutBor (RBTree A H) → MutBor L → CursorOf A L V H → Type 0
  SameNames tree links c = (c.list.ghost_name ≡ tree.ghost_name) × (c.links.ghost_name ≡ links.ghost_name) × (adapter_of c.list.now ≡ adapter_of tree.now)
