-- Two trees are joined: a place is inserted into one tree, and the other tree becomes a subtree of this place.
use Rattle.std.specs.Prelude.{◌≡◌, ℕ, ◌+◌, ◌≤◌, Bool, true, cond, Option, None, List, [], ◌∷◌}
use Rattle.ic_link_ops.specs.Prelude.{Place, Cut, join, insert, IsDistinct, Table, ChangesOnlyIn, Tree, top, in_order, top_color, blacks, IsRight}
use Rattle.ic_link_ops.specs.declared.color.Color.TheVariants.{Red, Black}
use Rattle.ic_link_ops.specs.declared.side.Side.{Side}
use Rattle.ic_link_ops.specs.RedBlackTree.{Node, IsTree, Represents}
use Rattle.ic_link_ops.specs.Frames.{Frame, branch, plug, above}
use Rattle.ic_rbtree.specs.declared.join.roots.Measured.{Measured}
use Rattle.ic_rbtree.specs.Pieces.{Piece, loose, below, around, Held, ClimbState, Represented}
use Rattle.ic_rbtree.specs.Removal.{IsOn}
use Rattle.ic_rbtree.specs.Sides.{beyond}

-- TWO TREES BEFORE THEY ARE JOINED: `frames` are the frames of the taller tree above its subtree `near`. The lower tree `far` has the black height of `near`.
-- `base` is the old table, and `pieces` are the pieces of the table beside both trees
pub record Graft (E : Type 0) : Type 0 where
  pub base : Table E
  pub frames : List Frame
  pub near : Tree
  pub far : Tree
  pub pieces : List Piece

module _ {E : Type 0} (n : E → Node) where
  pub record IsGraft (v : Table E) (root parent : Option Place) (d : Side) (near : Option Place) (p : Place) (far : Option Place) (k : Graft E) : Type 0 where
    pub held : Held n k.base v (loose p ∷ around root k.frames (top k.near) ∷ below (above k.frames) k.near ∷ below None k.far ∷ k.pieces)
    pub parent_is : parent ≡ above k.frames
    pub near_is : near ≡ top k.near
    pub far_is : far ≡ top k.far
    pub side_is : IsOn d k.frames
    pub same : blacks k.near ≡ blacks k.far
    pub black : top_color k.near ≡ Black
    pub right : IsRight (plug k.frames k.near)
    pub far_right : IsRight k.far

  -- p is inserted between the trees `near` and `far`, and all three become one tree. Each path down has one black member more if `grown` is true
  abbrev pub Grafts : Table E → Table E → Option Place → Option Place → Option Place → Side → Option Place → Place → Option Place → Bool → Type 0
  Grafts v w root new_root parent d near p far grown =
      (k : Graft E) → IsGraft v root parent d near p far k
      → (h : Represented n k.base w new_root (in_order (plug k.frames (branch d Red k.far p k.near))) k.pieces) × (blacks h.tree ≡ blacks (plug k.frames k.near) + cond grown 1 0)

  -- the optional place o is the root of the tree t in the table v, or none if t is empty
  abbrev pub IsRootOf : Table E → Option Place → Tree → Type 0
  IsRootOf v o t = (up : Option Place) × IsTree n v.entry up t × (o ≡ top t)

  -- A DESCENT ALONG A SIDE of the tree t has come to a subtree u below `parent`, whose root is `near`. No member of t is beyond this subtree on side d, and the
  -- subtree has `count` black members on each path down
  pub record IsSpine (base v : Table E) (root : Option Place) (d : Side) (t : Tree) (ps : List Piece) (near parent : Option Place) (count : ℕ) (gs : List Frame) (u : Tree) : Type 0 where
    pub stands : ClimbState n base v root gs u ps
    pub same : plug gs u ≡ t
    pub near_is : near ≡ top u
    pub parent_is : parent ≡ above gs
    pub side_is : IsOn d gs
    pub nothing : beyond d gs ≡ []
    pub blacks_are : blacks u ≡ count

  -- a descent along side d of the tree t ends at a subtree whose root `near` is black or missing. No member of t is beyond this subtree on side d, and the
  -- subtree has `count` black members on each path down
  abbrev pub EndsBlack : Table E → Table E → Option Place → Side → Tree → List Piece → Option Place → Option Place → ℕ → Type 0
  EndsBlack base v root d t ps near parent count =
      (gs : List Frame) × (u : Tree) × IsSpine base v root d t ps near parent count gs u × (top_color u ≡ Black)

-- the record m has the root of the tree t and the black height of t
pub record IsMeasured (m : Measured) (t : Tree) : Type 0 where
  pub root_is : m.root ≡ top t
  pub height_is : m.height ≡ blacks t

-- the record of two trees: the old table `base`, the trees `one` and `two`, and the pieces of the table beside both trees
pub record Pair (E : Type 0) : Type 0 where
  pub base : Table E
  pub one : Tree
  pub two : Tree
  pub pieces : List Piece

module _ {E : Type 0} (n : E → Node) where
  -- TWO TREES of the right shape are in the table v, and the linked place p is in neither of them
  pub record ArePair (v : Table E) (one : Option Place) (p : Place) (two : Option Place) (k : Pair E) : Type 0 where
    pub held : Held n k.base v (loose p ∷ below None k.one ∷ below None k.two ∷ k.pieces)
    pub one_is : one ≡ top k.one
    pub two_is : two ≡ top k.two
    pub one_right : IsRight k.one
    pub two_right : IsRight k.two

  -- two trees of the right shape are in the table v, and the linked place p is in neither. The records `one` and `two` have the roots and the black heights
  -- of the trees
  pub record AreMeasured (v : Table E) (one : Measured) (p : Place) (two : Measured) (k : Pair E) : Type 0 where
    pub pair : ArePair v one.root p two.root k
    pub one_height : one.height ≡ blacks k.one
    pub two_height : two.height ≡ blacks k.two

  -- the two trees are as `AreMeasured` states, and the black height of the tree `one` is at least that of the tree `two`
  pub record AreHigh (v : Table E) (one : Measured) (p : Place) (two : Measured) (k : Pair E) : Type 0 where
    pub measured : AreMeasured v one p two k
    pub lower : two.height ≤ one.height

  -- TWO TREES ARE JOINED: the table w has one tree with the in-order list s, and the record m has its root and its black height
  abbrev pub IsJoined : Table E → Table E → Measured → List Place → List Piece → Type 0
  IsJoined base w m s ps = (h : Represented n base w m.root s ps) × (m.height ≡ blacks h.tree)

  -- TWO TREES CAN BE JOINED with p between them: the table represents the part before the gap for the tree `left`, and the part after the gap for the tree
  -- `right`. p is linked, and p and the members of the two parts are distinct
  pub record CanJoin (v : Table E) (left : Option Place) (p : Place) (right : Option Place) (gap : Cut) : Type 0 where
    pub front : Represents n v left gap.front
    pub back : Represents n v right gap.back
    pub linked : (n (v.entry p)).linked ≡ true
    pub distinct : IsDistinct (insert gap p)

-- `Represents t head s` states that the table t represents the sequence s for the tree with this head
module _ {E H : Type 0} (Represents : Table E → H → List Place → Type 0) where
  -- THE TABLE REPRESENTS TWO PARTS: it represents the part before the gap for the tree `left`, and the part after the gap for the tree `right`. No place
  -- occurs twice in the two parts
  pub record RepresentsParts (v : Table E) (left right : H) (gap : Cut) : Type 0 where
    pub front : Represents v left gap.front
    pub back : Represents v right gap.back
    pub distinct : IsDistinct (join gap)

  -- the table represents a sequence for each of the trees `left` and `right`, and no place occurs twice in the two sequences
  abbrev pub RepresentsPartsSome : Table E → H → H → Type 0
  RepresentsPartsSome v left right = (gap : Cut) × RepresentsParts v left right gap

  -- THE PARTS ARE ONE TREE: the table w represents both parts of the gap as one sequence, for the tree with the head `head`. No entries are changed except
  -- those of the members
  pub record Appends (v w : Table E) (head : H) (gap : Cut) : Type 0 where
    pub shows : Represents w head (join gap)
    pub frame : ChangesOnlyIn v w (join gap)
