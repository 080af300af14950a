-- A loop splits a tree at an insert position, which is a missing child. The loop goes from the insert position up to the root.
use Rattle.std.specs.Prelude.{◌≡◌, ℕ, ◌+◌, ◌<◌, length, Option, Some, None, List, ◌∷◌, ◌++◌}
use Rattle.ic_link_ops.specs.Prelude.{Place, Cut, Table, Node, weight, blacks, IsRight, Tree, top, in_order}
use Rattle.ic_link_ops.specs.declared.color.Color.{Color}
use Rattle.ic_link_ops.specs.declared.side.Side.{Side}
use Rattle.ic_link_ops.specs.Frames.{Frame, frame, above, before, after}
use Rattle.ic_rbtree.specs.declared.join.roots.Measured.{Measured}
use Rattle.ic_rbtree.specs.Insertion.{blackened}
use Rattle.ic_rbtree.specs.Join.{IsMeasured}
use Rattle.ic_rbtree.specs.Pieces.{Piece, below, around, Held}
use Rattle.ic_rbtree.specs.Removal.{IsOn}
use Rattle.ic_rbtree.specs.Shortage.{PairsAround, EvenAround}

-- THE STATE OF THE LOOP that splits a tree: `base` is the old table, `gap` is the gap at which the tree is split, and `frames` are the frames above the insert
-- position. `named` is the child that the lowest frame's member still has at the insert position, and `count` is the number of black members on each path down
-- from there. `front` and `back` are the two trees made of the members below, and `pieces` are the pieces of the table beside the tree
pub record CutUp (E : Type 0) : Type 0 where
  pub base : Table E
  pub gap : Cut
  pub frames : List Frame
  pub named : Option Place
  pub count : ℕ
  pub front : Tree
  pub back : Tree
  pub pieces : List Piece

module _ {E : Type 0} (n : E → Node) where
  -- THE LOOP'S INVARIANT: the trees `front` and `back` of k have the right shape, and the records `left` and `right` have their roots and black heights.
  -- `front` and the frames of k have the members before the gap, and `back` and the frames have the members after it
  pub record IsCutUp (v : Table E) (root : Option Place) (left right : Measured) (k : CutUp E) : Type 0 where
    pub held : Held n k.base v (around root k.frames k.named ∷ below None k.front ∷ below None k.back ∷ k.pieces)
    pub left_is : IsMeasured left k.front
    pub right_is : IsMeasured right k.back
    pub front_right : IsRight k.front
    pub back_right : IsRight k.back
    pub pairs : PairsAround k.frames
    pub even : EvenAround k.frames k.count
    pub front_is : before k.frames ++ in_order k.front ≡ k.gap.front
    pub back_is : in_order k.back ++ after k.frames ≡ k.gap.back

  -- THE LOOP'S INVARIANT AT AN INSERT POSITION: the insert position is on side d of `parent`, and `height` is the number `count` of the state k
  pub record IsCutBelow (v : Table E) (root parent : Option Place) (d : Side) (height : ℕ) (left right : Measured) (k : CutUp E) : Type 0 where
    pub cut : IsCutUp v root left right k
    pub parent_is : parent ≡ above k.frames
    pub side_is : IsOn d k.frames
    pub height_is : height ≡ k.count

  -- the loop's invariant holds at the insert position on side d of `parent`, for two parts and for fewer than m frames above the insert position
  abbrev pub IsCutting : Table E → Table E → Option Place → Option Place → Side → ℕ → Measured → Measured → Cut → List Piece → ℕ → Type 0
  IsCutting base v root parent d height left right gap ps m =
      (fs : List Frame) × (o : Option Place) × (count : ℕ) × (front back : Tree)
      × IsCutBelow v root parent d height left right (record { base = base; gap = gap; frames = fs; named = o; count = count; front = front; back = back; pieces = ps })
      × (length fs < m)

  -- the subtree with the root `child` and the black height `height` becomes a tree of its own with a black root. `alone` has the root and the black height
  -- of this tree
  abbrev pub Detaches : Table E → Table E → Option Place → ℕ → Measured → Type 0
  Detaches v w child height alone =
      (base : Table E) (up : Option Place) (t : Tree) (ps : List Piece) → child ≡ top t → height ≡ blacks t → Held n base v (below up t ∷ ps)
      → Held n base w (below None (blackened t) ∷ ps) × IsMeasured alone (blackened t)

  -- one turn of the loop: p is the member above the insert position, which is on side d of p. p and its subtree on the other side are joined to one of the two
  -- parts. Then the insert position is at the old position of p
  abbrev pub CutsOff : Table E → Table E → Place → Side → ℕ → Measured → Measured → Measured → Measured → Type 0
  CutsOff v w p d height left right new_left new_right =
      (root : Option Place) (k : CutUp E) (c : Color) (b : Tree) (fs : List Frame) → k.frames ≡ frame d c p b ∷ fs → height ≡ k.count → IsCutUp v root left right k
      → (front back : Tree) × IsCutUp w root new_left new_right (record k { frames = fs; named = Some p; count = weight c + k.count; front = front; back = back })

  -- THE TREE IS CUT APART into two trees. The tree with the root `left` has the members before the gap, and the tree with the root `right` has the members
  -- after the gap
  pub record AreCutApart (base w : Table E) (left right : Option Place) (gap : Cut) (ps : List Piece) : Type 0 where
    pub front : Tree
    pub back : Tree
    pub held : Held n base w (below None front ∷ below None back ∷ ps)
    pub left_is : left ≡ top front
    pub right_is : right ≡ top back
    pub front_right : IsRight front
    pub back_right : IsRight back
    pub front_is : in_order front ≡ gap.front
    pub back_is : in_order back ≡ gap.back
