-- Contracts describe an entry by these definitions. An entry is a member with a key, or the gap where the key would be inserted.
use Rattle.std.specs.Prelude.{◌≡◌, ⊤, Some, Result, IfOk, IfErr, List, [], ◌∷◌}
use Rattle.std.specs.declared.cmp.Ordering.{Ordering}
use Rattle.std.specs.Borrow.{MutBor}
use Rattle.ic_link_ops.specs.Prelude.{Place, Cut, join, Table, IsValidCursor, LinkStep, acquires, Inserts, Node}
use Rattle.ic_rbtree.specs.declared.keys.entry.Entry.{Entry}
use Rattle.ic_rbtree.specs.declared.keys.entry.Entry.TheVariants.{Occupied, Vacant}
use Rattle.ic_rbtree.specs.declared.keys.entry.InsertCursor.{InsertCursor}
use Rattle.ic_rbtree.specs.declared.keys.entry.RefusedInsert.{RefusedInsert}
use Rattle.ic_rbtree.specs.declared.tree.RBTree.{RBTree}
use Rattle.ic_rbtree.specs.Borders.{IsBorder, at_most_at, less_at}
use Rattle.ic_rbtree.specs.CursorMut as editing
use Rattle.ic_rbtree.specs.CursorMut.{CursorOf}
use Rattle.ic_rbtree.specs.Insertion.{IsInsertPos}
use Rattle.ic_rbtree.specs.Kept.{Kept, RepresentsKept}
use Rattle.ic_rbtree.specs.Tree.{head_of}

module _ {A L H V K : Type 0} where
  -- if the entry is occupied, P holds for the cursor in the entry. `IfVacant` states that P holds for the gap in the entry if the entry is vacant
  abbrev pub IfOccupied : Entry A L H V K → (CursorOf A L V H → Type 0) → Type 0
  IfOccupied (Occupied c) P = P c
  IfOccupied (Vacant v) P = ⊤

  abbrev pub IfVacant : Entry A L H V K → (InsertCursor A L H → Type 0) → Type 0
  IfVacant (Occupied c) P = ⊤
  IfVacant (Vacant v) P = P v

module _ {A L H : Type 0} where
  -- the tree that the insert cursor edits. `links_of` is the table that the insert cursor edits
  abbrev pub tree_of : InsertCursor A L H → RBTree A H
  tree_of v = v.tree.now

  abbrev pub links_of : InsertCursor A L H → L
  links_of v = v.links.now

  -- the vacant entry v borrows the tree `tree` and the table `links`, and neither of them has changed
  abbrev pub IsBorrowed : MutBor (RBTree A H) → MutBor L → InsertCursor A L H → Type 0
  IsBorrowed tree links v =
      (v.tree.ghost_name ≡ tree.ghost_name) × (v.links.ghost_name ≡ links.ghost_name) × (v.tree.now ≡ tree.now) × (v.links.now ≡ links.now)

  module _ {E : Type 0} (node : E → Node) where
    -- THE GAP of a vacant entry: the entry v inserts at the gap `gap` of the tree in the table t
    abbrev pub IsVacantAt : Table E → InsertCursor A L H → Cut → Type 0
    IsVacantAt t v gap = IsInsertPos node t v.parent v.side gap

    -- VACANT FOR THE SEARCHED KEY: the entry inserts at a gap of s. The member before the gap, if any, is less than the key, and the member after the gap,
    -- if any, is greater
    pub record IsVacantFor (at : Place → Ordering) (t : Table E) (s : List Place) (v : InsertCursor A L H) : Type 0 where
      pub gap : Cut
      pub same : join gap ≡ s
      pub is_at : IsVacantAt t v gap
      pub smaller : IsBorder (at_most_at at) gap
      pub larger : IsBorder (less_at at) gap

  -- the table represents a sequence for the entry's tree, and the entry inserts at a gap of this sequence
  abbrev pub CanInsert : {E : Type 0} → (H → Kept) → (E → Node) → (L → Table E) → InsertCursor A L H → Type 0
  CanInsert kept node table v =
      (gap : Cut) × RepresentsKept kept node (table (links_of v)) (head_of (tree_of v)) (join gap) × IsVacantAt node (table (links_of v)) v gap

  -- the insert cursor v has the gap of the insert cursor `old`, and borrows the tree and the table that `old` borrowed. The tree is as it was
  abbrev pub IsLeft : InsertCursor A L H → InsertCursor A L H → Type 0
  IsLeft old v = (v.tree.ghost_name ≡ old.tree.ghost_name) × (v.links.ghost_name ≡ old.links.ghost_name) × (tree_of v ≡ tree_of old)
      × (v.parent ≡ old.parent) × (v.side ≡ old.side)

-- THE OBJECT IS INSERTED at the gap of v, and the result is a cursor on the object. If the object's link is refused, the result has the object and the gap, and
-- nothing has changed
module _ {A L H T K E : Type 0} (kept : H → Kept) (node : E → Node) (table : L → Table E) (Trace : L → L → List LinkStep → Type 0) (Refused : L → L → Place → Type 0) where
  pub record InsertsInto (v : InsertCursor A L H) (object : Place) (result : Result (CursorOf A L T H) (RefusedInsert A L H T K)) : Type 0 where
    pub inserted : (gap : Cut) → RepresentsKept kept node (table (links_of v)) (head_of (tree_of v)) (join gap) → IsVacantAt node (table (links_of v)) v gap
        → IfOk result (λ c. Inserts (RepresentsKept kept node) (table (links_of v)) (table (editing.links_of c)) (head_of (editing.tree_of c)) gap object)
    pub acquired : IfOk result (λ c. Trace (links_of v) (editing.links_of c) (acquires object ∷ []))
    pub position : IfOk result (λ c. editing.position c ≡ Some object)
    pub stands : IfOk result (λ c. IsValidCursor (RepresentsKept kept node) table (editing.site_of c))
    pub borrows : IfOk result (editing.SameNames v.tree v.links)
    pub refused : IfErr result (λ e. Refused (links_of v) (links_of e.gap) object)
    pub unchanged : IfErr result (λ e. (e.object ≡ object) × IsLeft v e.gap)
