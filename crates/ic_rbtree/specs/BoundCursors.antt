-- A search for a bound returns a cursor on a border, which is the first or the last member that meets the bound.
use Rattle.std.specs.Prelude.{◌≡◌, Option, List}
use Rattle.std.specs.Borrow.{MutBor}
use Rattle.ic_link_ops.specs.Prelude.{Place, Table, IsValidCursor, Node}
use Rattle.ic_rbtree.specs.declared.tree.RBTree.{RBTree}
use Rattle.ic_rbtree.specs.Kept.{Kept, RepresentsKept}
use Rattle.ic_rbtree.specs.Tree.{head_of}
use Rattle.ic_rbtree.specs.Cursor.{Cursor, tree_of, links_of, position, site_of}
use Rattle.ic_rbtree.specs.CursorMut as editing
use Rattle.ic_rbtree.specs.CursorOwning as owning

-- `kept` says what the head of a tree stores, `n` reads the node of an entry, and `table` turns the links into a table. `IsBorder s p` says that the position p is
-- on the border among the members s
module _ {A E H L V : Type 0} (kept : H → Kept) (n : E → Node) (table : L → Table E) (IsBorder : List Place → Option Place → Type 0) where
  -- A CURSOR THAT READS the tree t and the links l is on the border
  pub record ReadsAtBorder (t : RBTree A H) (l : L) (cursor : Cursor A L V H) : Type 0 where
    pub tree : tree_of cursor ≡ t
    pub links : links_of cursor ≡ l
    pub border : (s : List Place) → RepresentsKept kept n (table l) (head_of t) s → IsBorder s (position cursor)
    pub stands : IsValidCursor (RepresentsKept kept n) table (site_of cursor)

  -- A CURSOR THAT READS the tree t and the links l is on the border that a probe has found. `bound` and `bound'` are the bound before the call and after it,
  -- and `Looked` says how many comparisons its probe makes
  pub record ReadsAtBorderByProbe {B : Type 0} (Looked : B → B → List Place → Type 0) (t : RBTree A H) (l : L) (bound bound' : B)
      (cursor : Cursor A L V H) : Type 0 where
    pub tree : tree_of cursor ≡ t
    pub links : links_of cursor ≡ l
    pub border : (s : List Place) → RepresentsKept kept n (table l) (head_of t) s → IsBorder s (position cursor)
    pub stands : IsValidCursor (RepresentsKept kept n) table (site_of cursor)
    pub looks : (s : List Place) → RepresentsKept kept n (table l) (head_of t) s → Looked bound bound' s

  -- A CURSOR THAT EDITS the borrowed tree t and the borrowed links l is on the border
  pub record EditsAtBorder (t : MutBor (RBTree A H)) (l : MutBor L) (cursor : editing.CursorOf A L V H) : Type 0 where
    pub borrows : editing.IsBorrowed t l cursor
    pub border : (s : List Place) → RepresentsKept kept n (table l.now) (head_of t.now) s → IsBorder s (editing.position cursor)
    pub stands : IsValidCursor (RepresentsKept kept n) table (editing.site_of cursor)

  -- A CURSOR THAT OWNS the tree t is on the border among the members that the links l represent
  pub record OwnsAtBorder (t : RBTree A H) (l : L) (cursor : owning.CursorOwning A V H) : Type 0 where
    pub tree : owning.tree_of cursor ≡ t
    pub border : (s : List Place) → RepresentsKept kept n (table l) (head_of t) s → IsBorder s (owning.position cursor)
    pub stands : IsValidCursor (RepresentsKept kept n) table (owning.site_of l cursor)
