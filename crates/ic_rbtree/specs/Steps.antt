-- These definitions state the effect of each function that writes children and parents.
use Rattle.std.specs.Prelude.{◌≡◌, Option, Some, List, ◌∷◌}
use Rattle.ic_link_ops.specs.Prelude.{Place, Table, LinkStep, Tree, top, Node, times_around}
use Rattle.ic_link_ops.specs.declared.color.Color.{Color}
use Rattle.ic_link_ops.specs.declared.side.Side.{Side}
use Rattle.ic_link_ops.specs.declared.side.Side.TheVariants.{Left, Right}
use Rattle.ic_link_ops.specs.Frames.{Frame, branch, above}
use Rattle.ic_rbtree.specs.Pieces.{Piece, below, around, Held, ClimbState}

-- each list of steps that led to the old state also leads to the new state, because no step was taken in between
abbrev pub TraceStays : {L : Type 0} → (L → L → List LinkStep → Type 0) → L → L → Type 0
TraceStays {L} Trace old new = (start : L) (s : List LinkStep) → Trace start old s → Trace start new s

-- THE PARTS OF A ROTATION: the color of the member that is rotated down, its near subtree, its far child `upper`, and the color and the two subtrees of
-- `upper`
pub record Turn : Type 0 where
  pub color : Color
  pub near : Tree
  pub upper_color : Color
  pub inner : Tree
  pub upper : Place
  pub outer : Tree

-- the subtree before the member p is rotated down to side d. `turned` is the subtree after the rotation
abbrev pub unturned : Side → Place → Turn → Tree
unturned d p x = branch d x.color x.near p (branch d x.upper_color x.inner x.upper x.outer)

abbrev pub turned : Side → Place → Turn → Tree
turned d p x = branch d x.upper_color (branch d x.color x.near p x.inner) x.upper x.outer

module _ {E : Type 0} (n : E → Node) where
  -- the place p is on the given side of its parent: it is the left child, or if the side is right, it is not the left child
  abbrev pub IsSideOf : Table E → Place → Place → Side → Type 0
  IsSideOf v p parent Left = (n (v.entry parent)).left ≡ Some p
  IsSideOf v p parent Right = (n (v.entry parent)).left ≡ Some p → ⊥

  -- the tree with the root `child` has `parent` as the parent of its root after the edit
  abbrev pub Adopts : Table E → Table E → Option Place → Option Place → Type 0
  Adopts v w child parent =
      (base : Table E) (up x : Option Place) (t : Tree) (ps : List Piece) → child ≡ top t → parent ≡ x
      → Held n base v (below up t ∷ ps) → Held n base w (below x t ∷ ps)

  -- after the edit, `to` is the child of `parent` instead of `was`. If `parent` is none, `to` is the root of the tree
  abbrev pub ChangesChild : Table E → Table E → Option Place → Option Place → Option Place → Place → Option Place → Type 0
  ChangesChild v w old_root new_root parent was to =
      (base : Table E) (fs : List Frame) (x : Option Place) (ps : List Piece) → parent ≡ above fs → to ≡ x
      → times_around was fs ≡ 0 → Held n base v (around old_root fs (Some was) ∷ ps) → Held n base w (around new_root fs x ∷ ps)

  -- p is rotated down to side d, and `upper`, the child of p on the other side, is rotated above p. p gets the color `low`, and `upper` gets the color `high`
  abbrev pub Rotates : Table E → Table E → Option Place → Option Place → Place → Place → Side → Color → Color → Type 0
  Rotates v w old_root new_root p upper d low high =
      (base : Table E) (fs : List Frame) (x : Turn) (ps : List Piece) → x.upper ≡ upper → ClimbState n base v old_root fs (unturned d p x) ps
      → ClimbState n base w new_root fs (turned d p (record x { color = low; upper_color = high })) ps
