-- These definitions state what a removal of a member does, and what a replacement of a member by a place does.
use Rattle.std.specs.Prelude.{◌≡◌, ◌+◌, ◌<◌, ◌⊎◌, Bool, true, false, Option, Some, None, List, ◌∷◌, ◌++◌, length}
use Rattle.ic_link_ops.specs.Prelude.{Place, Table, Tree, leaf, fork, top, in_order, top_color, weight, blacks, IsEven, NoRedPair, IsRight, Node}
use Rattle.ic_link_ops.specs.declared.color.Color.{Color}
use Rattle.ic_link_ops.specs.declared.color.Color.TheVariants.{Red, Black}
use Rattle.ic_link_ops.specs.declared.side.Side.{Side}
use Rattle.ic_link_ops.specs.Frames.{Frame, plug, above, before, after}
use Rattle.ic_rbtree.specs.Height.{turns}
use Rattle.ic_rbtree.specs.Pieces.{Piece, below, around, loose, Held, ClimbState, Represented}
use Rattle.ic_rbtree.specs.Focus.{Focus, IsRestored}
use Rattle.ic_rbtree.specs.Shortage.{EvenAround, PairsAround}
use Rattle.ic_rbtree.specs.Removal.{IsOn, Short}
use Rattle.ic_rbtree.specs.Steps.{IsSideOf}

-- the first of two optional places, or the second if the first is none
abbrev pub or_else : Option Place → Option Place → Option Place
or_else None b = b
or_else (Some x) b = Some x

-- the subtrees below a member, and its color
pub record Parts : Type 0 where
  pub color : Color
  pub left : Tree
  pub right : Tree

abbrev pub member : Place → Parts → Tree
member p x = fork x.color x.left p x.right

-- the only subtree of a member that has at most one subtree
abbrev pub only : Tree → Tree → Tree
only leaf b = b
only (fork c a p b) r = fork c a p b

abbrev pub IsLone : Tree → Tree → Type 0
IsLone a b = (a ≡ leaf) ⊎ (b ≡ leaf)

-- the tree is right, except that a member of the color c is missing between the frames fs and x, the only subtree of this member
pub record IsGap (c : Color) (fs : List Frame) (x : Tree) : Type 0 where
  pub pairs : NoRedPair x
  pub even : IsEven x
  pub pairs_around : PairsAround fs
  pub even_around : EvenAround fs (weight c + blacks x)
  pub red : c ≡ Red → top_color x ≡ Black
  pub none : blacks x ≡ 0

module _ {E : Type 0} (n : E → Node) where
  abbrev pub IsSideBelow : Table E → Place → Option Place → Side → Type 0
  IsSideBelow v p parent d = (q : Place) → parent ≡ Some q → IsSideOf n v p q d

  -- the tree lacks a member of the color c. `child`, the root of that member's only subtree, has the member's position on side d of `parent`, but the
  -- parent of `child` is not set yet
  pub record Gap (v : Table E) (root : Option Place) (c : Color) (child parent : Option Place) (d : Side) (k : Focus E) : Type 0 where
    pub named : Option Place
    pub stands : Held n k.base v (around root k.frames (top k.subtree) ∷ below named k.subtree ∷ k.pieces)
    pub child_is : child ≡ top k.subtree
    pub parent_is : parent ≡ above k.frames
    pub side_is : IsOn d k.frames
    pub gap : IsGap c k.frames k.subtree
    pub order : in_order (plug k.frames k.subtree) ≡ k.sequence

  -- if `short` is false, the tree is right. If `short` is true, the paths on side d of `parent` have one black member too few, and the rest of the tree is
  -- right
  abbrev pub IsRightOrShort : Table E → Option Place → Bool → Option Place → Side → Focus E → Type 0
  IsRightOrShort v root short parent d k = (short ≡ false → IsRestored n v root k) × (short ≡ true → Short n v root parent d k)

  -- `child` gets `parent` as its parent, where a member of the color c is missing. After this, the tree is right or the paths through `child` have one
  -- black member too few
  abbrev pub FillsGap : Table E → Table E → Color → Option Place → Option Place → Bool → Type 0
  FillsGap v w c child parent short = (root : Option Place) (d : Side) (k : Focus E) → Gap v root c child parent d k → IsRightOrShort w root short parent d k

  -- the member p, which has at most one child, is taken out of the tree and is a piece of its own. The tree without p is right, or its paths on side d of
  -- `parent` have one black member too few
  abbrev pub SplicesOut : Table E → Table E → Option Place → Option Place → Place → Bool → Option Place → Side → Type 0
  SplicesOut v w root new_root p short parent d =
      (base : Table E) (fs : List Frame) (x : Parts) (ps : List Piece) → ClimbState n base v root fs (member p x) ps → IsLone x.left x.right → IsRight (plug fs (member p x))
      → IsRightOrShort w new_root short parent d (record {
        base = base;
        sequence = before fs ++ (in_order (only x.left x.right) ++ after fs);
        frames = fs;
        subtree = only x.left x.right;
        pieces = loose p ∷ ps;
      })

  -- THE PLACE `new` REPLACES the member p in the tree and gets the color of p. After this, p is a piece of its own
  abbrev pub TakesPlace : Table E → Table E → Option Place → Option Place → Place → Place → Type 0
  TakesPlace v w root new_root p new =
      (base : Table E) (fs : List Frame) (x : Parts) (ps : List Piece)
      → ClimbState n base v root fs (member p x) (loose new ∷ ps) → ClimbState n base w new_root fs (member new x) (loose p ∷ ps)

-- the second of two optional places if both are places, otherwise none
abbrev pub both_of : Option Place → Option Place → Option Place
both_of None b = None
both_of (Some x) b = b

module _ {E : Type 0} (n : E → Node) where
  -- the member p is removed from the sequence of the tree, and is a piece of its own
  abbrev pub TakesAway : Table E → Table E → Option Place → Option Place → Place → Type 0
  TakesAway v w root new_root p =
      (base : Table E) (front : List Place) (back : List Place) (ps : List Piece)
      → Represented n base v root (front ++ p ∷ back) ps → Represented n base w new_root (front ++ back) (loose p ∷ ps)

  -- the member p is removed from the tree, but the colors are not repaired yet. There are fewer than `turns` frames, so a climb of the repair has enough turns
  abbrev pub TakesOut : Table E → Table E → Option Place → Option Place → Place → Bool → Option Place → Side → Type 0
  TakesOut v w root new_root p short parent d =
      (base : Table E) (front : List Place) (back : List Place) (ps : List Piece) → Represented n base v root (front ++ p ∷ back) ps
      → (fs : List Frame) × (t : Tree) × (length fs < turns)
      × IsRightOrShort n w new_root short parent d (record { base = base; sequence = front ++ back; frames = fs; subtree = t; pieces = loose p ∷ ps })
