-- A tree is given by its first and its last member. A walk that removes the members of a tree stores only these two members.
use Rattle.std.specs.Prelude.{◌≡◌, Option, Some, List, [], ◌∷◌, drop}
use Rattle.ic_link_ops.specs.Prelude.{Place, first, last, but_last, Table, Ends, Tree, top, in_order, Node, RepresentsEnds}
use Rattle.ic_link_ops.specs.declared.side.Side.{Side}
use Rattle.ic_link_ops.specs.declared.side.Side.TheVariants.{Left, Right}
use Rattle.ic_link_ops.specs.Frames.{Frame, above, plug, topmost}
use Rattle.ic_rbtree.specs.Pieces.{Piece, around, Held, ClimbState}
use Rattle.ic_rbtree.specs.Removal.{IsOn}
use Rattle.ic_rbtree.specs.Sides.{IsInTree, beyond}

-- the first and the last member of a tree, given by sides: `near` is the end on the given side, and `far` is the opposite end
abbrev pub ends_from : Side → Option Place → Option Place → Ends
ends_from Left near far = record { head = near; tail = far }
ends_from Right near far = record { head = far; tail = near }

-- the member at the end of a list on the given side: the first or the last. `others_on` is the list without that member
abbrev pub end_on : Side → List Place → Option Place
end_on Left = first
end_on Right = last

abbrev pub others_on : Side → List Place → List Place
others_on Left = drop 1
others_on Right = but_last

module _ {E : Type 0} (n : E → Node) where
  -- the table t represents the sequence w for the tree whose first and last member are `ends`. `RepresentsFrom` gives the ends by sides: `near` on side d, and
  -- `far` on the other side
  abbrev pub RepresentsWithin : Table E → Ends → List Place → Type 0
  RepresentsWithin t ends w = RepresentsEnds n t ends.head ends.tail w

  abbrev pub RepresentsFrom : Side → Table E → Option Place → Option Place → List Place → Type 0
  RepresentsFrom d t near far w = RepresentsWithin t (ends_from d near far) w

  -- after the edit, `to` is the child of `parent` on side d. If `parent` is none, `to` is the root of the tree
  abbrev pub Hangs : Table E → Table E → Option Place → Side → Option Place → Type 0
  Hangs v w parent d to =
      (base : Table E) (root : Option Place) (fs : List Frame) (was x : Option Place) (ps : List Piece) → parent ≡ above fs → IsOn d fs → to ≡ x
      → Held n base v (around root fs was ∷ ps) → Held n base w (around (topmost fs x) fs x ∷ ps)

  -- `child`, if it is not none, is the root of a subtree of a tree in the table
  abbrev pub CanDescend : Table E → Option Place → Type 0
  CanDescend v child = (p : Place) → child ≡ Some p → IsInTree n v p

  -- if a tree has the subtree with the root `child` below `parent`, and no member beyond this subtree on side d, then `result` is the outermost member of the
  -- tree on side d
  abbrev pub IsOuter : Table E → Option Place → Option Place → Side → Option Place → Type 0
  IsOuter v child parent d result =
      (base : Table E) (root : Option Place) (fs : List Frame) (t : Tree) (ps : List Piece) → ClimbState n base v root fs t ps → child ≡ top t → parent ≡ above fs
      → beyond d fs ≡ [] → result ≡ end_on d (in_order (plug fs t))
