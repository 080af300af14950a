-- This file describes a tree around one of its subtrees: the path from the root down to the subtree, and the other parts of the
-- tree.
use Rattle.std.specs.Prelude.{Option, Some, None, List, [], ◌∷◌, ◌++◌}
use Rattle.ic_unsafe_ref.specs.declared.place.Place.{Place}
use Rattle.ic_link_ops.specs.declared.color.Color.{Color}
use Rattle.ic_link_ops.specs.declared.side.Side.{Side}
use Rattle.ic_link_ops.specs.declared.side.Side.TheVariants.{Left, Right}
use Rattle.ic_link_ops.specs.Trees.{Tree, fork, top, in_order}
use Rattle.ic_link_ops.specs.RedBlackTree.{Node, IsAt, IsTree}

-- `with_child d e x` is the tree entry e with the child x on the side d.
abbrev pub with_child : Side → Node → Option Place → Node
with_child Left e x = record e { left = x }
with_child Right e x = record e { right = x }

-- The opposite side: right for left, and left for right.
abbrev pub across : Side → Side
across Left = Right
across Right = Left

-- The child that a tree entry has on the given side.
abbrev pub child_on : Side → Node → Option Place
child_on Left e = e.left
child_on Right e = e.right

-- `branch d c a p b` is the tree whose root is p with the color c. The subtree a is on the side d, and the subtree b is on the
-- opposite side.
abbrev pub branch : Side → Color → Tree → Place → Tree → Tree
branch Left c a p b = fork c a p b
branch Right c a p b = fork c b p a

-- A frame is one step down a tree. A frame stores the side that the step takes, the member from which the step starts, that
-- member's color, and that member's other subtree.
pub data Frame : Type 0 where
  frame : Side → Color → Place → Tree → Frame

-- `put_in` puts the subtree t below one frame, and `plug` puts the subtree t below a list of frames. The first frame of the list
-- is the lowest one.
abbrev pub put_in : Frame → Tree → Tree
put_in (frame d c p b) t = branch d c t p b

abbrev pub plug : List Frame → Tree → Tree
plug [] t = t
plug (f ∷ fs) t = plug fs (put_in f t)

-- The parent of the subtree below the frames. If there is no frame, there is no parent.
abbrev pub above : List Frame → Option Place
above [] = None
above (frame d c p b ∷ fs) = Some p

-- The root of the whole tree, if the subtree below the frames has the root o.
abbrev pub topmost : List Frame → Option Place → Option Place
topmost [] o = o
topmost (frame d c p b ∷ fs) o = topmost fs (Some p)

-- The members of the whole tree that come before the members of the subtree below the frames, in order.
abbrev pub before : List Frame → List Place
before [] = []
before (frame Left c p b ∷ fs) = before fs
before (frame Right c p b ∷ fs) = before fs ++ (in_order b ++ p ∷ [])

-- The members of the whole tree that come after the members of the subtree below the frames, in order.
abbrev pub after : List Frame → List Place
after [] = []
after (frame Left c p b ∷ fs) = p ∷ (in_order b ++ after fs)
after (frame Right c p b ∷ fs) = after fs

module _ {E : Type 0} (node : E → Node) where
  -- The place p has the color c, the child `near` on the side d, the child `far` on the opposite side, and the parent `up`.
  abbrev pub IsAtSide : (Place → E) → Side → Place → Color → Option Place → Option Place → Option Place → Type 0
  IsAtSide entry Left p c near far up = IsAt node entry p c near far up
  IsAtSide entry Right p c near far up = IsAt node entry p c far near up

  -- The entries store all members of a tree outside one subtree. The list of frames describes these members, and o is the root of
  -- the subtree.
  abbrev pub IsAround : (Place → E) → List Frame → Option Place → Type 0
  IsAround entry [] o = Unit {0}
  IsAround entry (frame d c p b ∷ fs) o =
      IsAtSide entry d p c o (top b) (above fs) × IsTree node entry (Some p) b × IsAround entry fs (Some p)
