-- Gaps and descents are described by sides, so that each statement holds for the left side and, mirrored, for the right side.
use Rattle.std.specs.Prelude.{◌≡◌, ◌<◌, Option, Some, None, List}
use Rattle.ic_link_ops.specs.Prelude.{Place, Cut, first, last, IsAfter, IsBefore, Table, Tree, leaf, top, in_order, Node}
use Rattle.ic_link_ops.specs.declared.color.Color.{Color}
use Rattle.ic_link_ops.specs.declared.side.Side.{Side}
use Rattle.ic_link_ops.specs.declared.side.Side.TheVariants.{Left, Right}
use Rattle.ic_link_ops.specs.Frames.{Frame, across, child_on, branch, plug, before, after}
use Rattle.ic_rbtree.specs.Height.{height, turns}
use Rattle.ic_rbtree.specs.Pieces.{Piece, ClimbState}

-- the gap is beside the position: after it on the right, before it on the left
abbrev pub IsBeside : Side → Cut → Option Place → Type 0
IsBeside Left = IsBefore
IsBeside Right = IsAfter

-- the members of the whole tree that are before the subtree below the frames fs, for the left side, or after this subtree, for the right side, in order
abbrev pub beyond : Side → List Frame → List Place
beyond Left fs = before fs
beyond Right fs = after fs

-- the member of s that is nearest to a subtree: the last member if s is left of the subtree, or the first member if s is right of it
abbrev pub nearest : Side → List Place → Option Place
nearest Left s = last s
nearest Right s = first s

module _ {E : Type 0} (n : E → Node) where
  -- p is the root of a subtree of a tree in the table
  abbrev pub IsInTree : Table E → Place → Type 0
  IsInTree v p = (base : Table E) × (root : Option Place) × (fs : List Frame) × (t : Tree) × (ps : List Piece) × ClimbState n base v root fs t ps × (top t ≡ Some p)

  -- y is the outermost member on side d of the subtree t below the frames fs
  pub record IsEnd (v : Table E) (d : Side) (y : Place) (fs : List Frame) (t : Tree) : Type 0 where
    pub gs : List Frame
    pub c : Color
    pub b : Tree
    pub same : plug gs (branch d c leaf y b) ≡ plug fs t
    pub beside : beyond d gs ≡ beyond d fs
    pub nearest_is : nearest (across d) (in_order t) ≡ Some y
    pub childless : child_on d (n (v.entry y)) ≡ None

  -- y is the outermost member on side d, at or below p
  abbrev pub IsOutermost : Table E → Place → Side → Place → Type 0
  IsOutermost v p d y =
      (base : Table E) (root : Option Place) (fs : List Frame) (t : Tree) (ps : List Piece) → ClimbState n base v root fs t ps → top t ≡ Some p → IsEnd v d y fs t

  -- `result` is the member nearest to the subtree with the root p among the members beyond it on side d, none if no member is there
  abbrev pub IsNearestAbove : Table E → Place → Side → Option Place → Type 0
  IsNearestAbove v p d result =
      (base : Table E) (root : Option Place) (fs : List Frame) (t : Tree) (ps : List Piece) → ClimbState n base v root fs t ps → top t ≡ Some p
      → result ≡ nearest d (beyond d fs)

  -- in a tree whose height is less than `turns`, y is the outermost member on side d, at or below p. `IsNearestAboveWithin` states for a tree of this height
  -- what `IsNearestAbove` states for every tree
  abbrev pub IsOutermostWithin : Table E → Place → Side → Place → Type 0
  IsOutermostWithin v p d y =
      (base : Table E) (root : Option Place) (fs : List Frame) (t : Tree) (ps : List Piece) → ClimbState n base v root fs t ps → top t ≡ Some p
      → height (plug fs t) < turns → IsEnd v d y fs t

  abbrev pub IsNearestAboveWithin : Table E → Place → Side → Option Place → Type 0
  IsNearestAboveWithin v p d result =
      (base : Table E) (root : Option Place) (fs : List Frame) (t : Tree) (ps : List Piece) → ClimbState n base v root fs t ps → top t ≡ Some p
      → height (plug fs t) < turns → result ≡ nearest d (beyond d fs)
