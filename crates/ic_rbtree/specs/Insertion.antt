-- These definitions state the effect of each step of a repair after an insert.
use Rattle.std.specs.Prelude.{◌≡◌, ℕ, ◌+◌, ◌<◌, Bool, true, false, cond, Option, Some, None, List, [], ◌∷◌, ◌++◌, length}
use Rattle.ic_link_ops.specs.Prelude.{Place, Cut, Table, Tree, leaf, fork, top, in_order, weight, blacks, Node}
use Rattle.ic_link_ops.specs.declared.color.Color.{Color}
use Rattle.ic_link_ops.specs.declared.color.Color.TheVariants.{Red, Black}
use Rattle.ic_link_ops.specs.declared.side.Side.{Side}
use Rattle.ic_link_ops.specs.declared.side.Side.TheVariants.{Left, Right}
use Rattle.ic_link_ops.specs.Frames.{Frame, frame, branch, plug, above, child_on}
use Rattle.ic_rbtree.specs.Height.{turns}
use Rattle.ic_rbtree.specs.Sides.{IsBeside}
use Rattle.ic_rbtree.specs.Pieces.{Piece, loose, ClimbState, Represented}
use Rattle.ic_rbtree.specs.Shortage.{wanted, IsNearlyRight}
use Rattle.ic_rbtree.specs.Focus.{Focus, IsInFocus, IsRestored}

-- the color of a new member: red below a parent, and black at the root
abbrev pub color_below : Option Place → Color
color_below None = Black
color_below (Some p) = Red

-- whether two sides are different
abbrev pub are_across : Side → Side → Bool
are_across Left Left = false
are_across Left Right = true
are_across Right Left = true
are_across Right Right = false

-- THE SURROUNDINGS OF A RED PAIR, which is a red member below a red parent. The record has the side and the sibling of the lower member, the color of the
-- grandparent, and the uncle, which is the grandparent's other subtree
pub record RedPair : Type 0 where
  pub low : Side
  pub sibling : Tree
  pub color : Color
  pub uncle : Tree

-- the frames above the lower member of a red pair: q is the upper member of the pair, on side i of the grandparent g, and fs are the frames above g
abbrev pub above_pair : Place → Place → Side → RedPair → List Frame → List Frame
above_pair q g i m fs = frame m.low Red q m.sibling ∷ frame i m.color g m.uncle ∷ fs

-- the tree with its root turned black
abbrev pub blackened : Tree → Tree
blackened leaf = leaf
blackened (fork c a p b) = fork Black a p b

module _ {E : Type 0} (n : E → Node) where
  -- THE LOOP'S INVARIANT: the tree is right, except that x, the root of the subtree in focus, may be a red member below a red member. x is black only if it is
  -- the root of the whole tree
  pub record RedAt (v : Table E) (root : Option Place) (x : Place) (k : Focus E) : Type 0 where
    pub stands : IsInFocus n v root k
    pub top_is : top k.subtree ≡ Some x
    pub nearly : IsNearlyRight k.frames k.subtree
    pub order : in_order (plug k.frames k.subtree) ≡ k.sequence

  -- the tree is right, with `count` black members on each path down
  abbrev pub IsRestoredWith : Table E → Option Place → Focus E → ℕ → Type 0
  IsRestoredWith w root k count = (h : IsRestored n w root k) × (blacks h.tree ≡ count)

  -- THE RESULT OF ONE STEP of the repair: if the step returns a place g, the loop's invariant holds at g, below fewer than m frames. Each path down then has
  -- `count` black members, or one more if g is the root. If the step returns none, the tree is right, with `count` black members on each path down
  abbrev pub IsFixedOrHigher : Table E → Option Place → Focus E → ℕ → ℕ → Option Place → Type 0
  IsFixedOrHigher w root k m count None = IsRestoredWith w root k count
  IsFixedOrHigher w root k m count (Some g) =
      (fs : List Frame) × (t : Tree) × RedAt w root g (record k { frames = fs; subtree = t }) × (length fs < m) × (blacks (plug fs t) ≡ count + weight (wanted fs))

  abbrev pub FixesRedParent : Table E → Table E → Option Place → Option Place → Place → Option Place → Option Place → Type 0
  FixesRedParent v w root new_root x parent result = (k : Focus E) → RedAt v root x k → parent ≡ above k.frames → IsFixedOrHigher w new_root k (length k.frames) (blacks (plug k.frames k.subtree)) result

  -- the repair makes the tree right, and each path down has one black member more if `grown` is true. If x was the root before the repair, x itself is this
  -- black member
  abbrev pub FixesInsertion : Table E → Table E → Option Place → Option Place → Place → Option Place → Bool → Type 0
  FixesInsertion v w root new_root x parent grown =
      (k : Focus E) → RedAt v root x k → parent ≡ above k.frames → length k.frames < turns
      → (h : IsRestored n w new_root k) × (blacks h.tree + weight (wanted k.frames) ≡ blacks (plug k.frames k.subtree) + cond grown 1 0)

  -- x has the red parent q, and q is on side i of its parent g. The frames of k are the frames above g
  pub record PairAt (v : Table E) (root : Option Place) (x q g : Place) (i : Side) (m : RedPair) (k : Focus E) : Type 0 where
    pub red : RedAt v root x (record k { frames = above_pair q g i m k.frames })

  abbrev pub FixesRedPairOn : Table E → Table E → Option Place → Option Place → Place → Place → Place → Side → Option Place → Type 0
  FixesRedPairOn v w root new_root x q g i result = (m : RedPair) (k : Focus E) → PairAt v root x q g i m k
      → IsFixedOrHigher w new_root k (length k.frames + 2) (blacks (plug (above_pair q g i m k.frames) k.subtree)) result

  abbrev pub FixesRedPair : Table E → Table E → Option Place → Option Place → Place → Place → Place → Option Place → Type 0
  FixesRedPair v w root new_root x q g result = (i : Side) → FixesRedPairOn v w root new_root x q g i result

  -- CASE 1, a red uncle y: q and y, the children of g, turn black, and g turns red unless it is the root
  abbrev pub Recolors : Table E → Table E → Place → Place → Place → Type 0
  Recolors v w q y g =
      (root : Option Place) (i : Side) (m : RedPair) (k : Focus E) → top m.uncle ≡ Some y
      → ClimbState n k.base v root (above_pair q g i m k.frames) k.subtree k.pieces
      → ClimbState n k.base w root k.frames (branch i (wanted k.frames) (branch m.low Black k.subtree q m.sibling) g (blackened m.uncle)) k.pieces

  -- `upper` is on side i of g, and a red child x of `upper` is an outer grandchild of g, because x is on side i of `upper`
  abbrev pub HasOuterGrandchild : Table E → Option Place → Place → Place → Side → RedPair → Focus E → Type 0
  HasOuterGrandchild w root upper g i m k =
      (x : Place) × (b : Tree) × (t : Tree) × PairAt w root x upper g i (record m { low = i; sibling = b }) (record k { subtree = t })

  -- CASE 2, an inner grandchild x of g: x is rotated above its parent q. After this, `upper` is the upper one of x and q, and has a red child that is an
  -- outer grandchild
  abbrev pub RotatesInnerGrandchild : Table E → Table E → Option Place → Option Place → Place → Place → Side → Place → Type 0
  RotatesInnerGrandchild v w root new_root x q i upper =
      (g : Place) (m : RedPair) (k : Focus E) → PairAt v root x q g i m k → HasOuterGrandchild w new_root upper g i m k

  -- THE INSERT POSITION on side d of the member q, which has no child there, is at the gap `gap`. If there is no member q, the tree is empty
  abbrev pub IsInsertPos : Table E → Option Place → Side → Cut → Type 0
  IsInsertPos v None d gap = (gap.front ≡ []) × (gap.back ≡ [])
  IsInsertPos v (Some q) d gap = (child_on d (n (v.entry q)) ≡ None) × IsBeside d gap (Some q)

  -- the linked place p is inserted into the tree at the gap of the insert position on side d of `parent`
  abbrev pub Attaches : Table E → Table E → Option Place → Option Place → Option Place → Side → Place → Type 0
  Attaches v w root new_root parent d p =
      (base : Table E) (gap : Cut) (ps : List Piece) → Represented n base v root (gap.front ++ gap.back) (loose p ∷ ps) → IsInsertPos v parent d gap
      → Represented n base w new_root (gap.front ++ p ∷ gap.back) ps
