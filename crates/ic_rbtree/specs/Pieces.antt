-- A table is described in pieces that share no place: single members, trees, and the surroundings of a subtree.
use Rattle.std.specs.Prelude.{◌≡◌, ℕ, ◌+◌, ◌≤◌, true, Option, List, [], ◌∷◌}
use Rattle.ic_link_ops.specs.Prelude.{Place, Table, Tree, top, in_order, IsRight, Node, IsTree, one_at, times, times_around}
use Rattle.ic_link_ops.specs.declared.color.Color.{Color}
use Rattle.ic_link_ops.specs.declared.side.Side.{Side}
use Rattle.ic_link_ops.specs.Frames.{Frame, above, topmost, IsAtSide, IsAround}

-- one piece of a table
pub data Piece : Type 0 where
  -- a linked place, described by a side, the place, its color, its child on this side, its child on the opposite side, and its parent
  cell : Side → Place → Color → Option Place → Option Place → Option Place → Piece
  -- a linked place, whatever its entry contains
  loose : Place → Piece
  -- a tree, with the parent of its root, which may be none
  below : Option Place → Tree → Piece
  -- the surroundings of a subtree: the root of the whole tree, the frames above the subtree, and the root of the subtree
  around : Option Place → List Frame → Option Place → Piece

-- how often a place occurs in a piece
abbrev pub times_piece : Place → Piece → ℕ
times_piece q (cell d p c near far up) = one_at q p
times_piece q (loose p) = one_at q p
times_piece q (below up t) = times q t
times_piece q (around root fs o) = times_around q fs

abbrev pub times_all : Place → List Piece → ℕ
times_all q [] = 0
times_all q (x ∷ ps) = times_piece q x + times_all q ps

module _ {E : Type 0} (n : E → Node) where
  -- the entries of the table are as the piece describes them
  abbrev pub IsPiece : (Place → E) → Piece → Type 0
  IsPiece entry (cell d p c near far up) = IsAtSide n entry d p c near far up
  IsPiece entry (loose p) = (n (entry p)).linked ≡ true
  IsPiece entry (below up t) = IsTree n entry up t
  IsPiece entry (around root fs o) = IsAround n entry fs o × (root ≡ topmost fs o)

  abbrev pub ArePieces : (Place → E) → List Piece → Type 0
  ArePieces entry [] = Unit {0}
  ArePieces entry (x ∷ ps) = IsPiece entry x × ArePieces entry ps

  -- THE TABLE v CONTAINS THE PIECES of the list ps, which share no place. Outside these pieces, each entry is as in the table `base`. The same places are
  -- linked in both tables
  pub record Held (base v : Table E) (ps : List Piece) : Type 0 where
    pub are : ArePieces v.entry ps
    pub once : (q : Place) → times_all q ps ≤ 1
    pub beside : (q : Place) → times_all q ps ≡ 0 → v.entry q ≡ base.entry q
    pub linked : (q : Place) → (n (v.entry q)).linked ≡ (n (base.entry q)).linked
    pub extent : v.extent ≡ base.extent

  -- the table v contains the tree t below the frames fs, and beside the whole tree the pieces ps
  abbrev pub ClimbState : Table E → Table E → Option Place → List Frame → Tree → List Piece → Type 0
  ClimbState base v root fs t ps = Held base v (around root fs (top t) ∷ below (above fs) t ∷ ps)

  -- the table v has a tree of the right shape with the in-order list s, and beside the tree the pieces ps
  pub record Represented (base v : Table E) (root : Option Place) (s : List Place) (ps : List Piece) : Type 0 where
    pub tree : Tree
    pub stands : ClimbState base v root [] tree ps
    pub order : in_order tree ≡ s
    pub shape : IsRight tree
