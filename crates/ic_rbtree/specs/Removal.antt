-- These definitions state the effect of each step of a repair after a removal.
use Rattle.std.specs.Prelude.{◌≡◌, ◌<◌, Bool, true, false, ◌||◌, ◌⊎◌, Option, Some, None, List, [], ◌∷◌, length}
use Rattle.ic_link_ops.specs.Prelude.{Place, Table, Tree, leaf, fork, top, in_order, top_color, Node}
use Rattle.ic_link_ops.specs.declared.color.Color.{Color}
use Rattle.ic_link_ops.specs.declared.color.Color.TheVariants.{Red, Black}
use Rattle.ic_link_ops.specs.declared.side.Side.{Side}
use Rattle.ic_link_ops.specs.Frames.{Frame, frame, branch, plug, above}
use Rattle.ic_rbtree.specs.Height.{turns}
use Rattle.ic_rbtree.specs.Pieces.{ClimbState}
use Rattle.ic_rbtree.specs.Shortage.{IsShort}
use Rattle.ic_rbtree.specs.Focus.{Focus, IsInFocus, IsRestored}

abbrev pub is_red : Color → Bool
is_red Red = true
is_red Black = false

-- whether the root of the tree has a red child
abbrev pub red_child : Tree → Bool
red_child leaf = false
red_child (fork c a p b) = is_red (top_color a) || is_red (top_color b)

-- the subtree below the frames is on side d of the lowest frame's member, if there is a frame
abbrev pub IsOn : Side → List Frame → Type 0
IsOn d [] = Unit {0}
IsOn d (frame k c p b ∷ fs) = d ≡ k

-- there is a place, and P holds for the place
abbrev pub Has : Option Place → (Place → Type 0) → Type 0
Has None P = ⊥
Has (Some p) P = P p

module _ {E : Type 0} (n : E → Node) where
  -- whether the place, if there is one, is red
  abbrev pub red_at : Table E → Option Place → Bool
  red_at v None = false
  red_at v (Some p) = is_red (n (v.entry p)).color

  -- THE LOOP'S INVARIANT: the subtree on side d of `parent` has one black member too few on each path, and the rest of the tree is right. If there is no
  -- parent, the subtree is the whole tree
  pub record Short (v : Table E) (root parent : Option Place) (d : Side) (k : Focus E) : Type 0 where
    pub stands : IsInFocus n v root k
    pub parent_is : parent ≡ above k.frames
    pub side_is : IsOn d k.frames
    pub short : IsShort k.frames k.subtree
    pub order : in_order (plug k.frames k.subtree) ≡ k.sequence

  abbrev pub FixesDeletion : Table E → Table E → Option Place → Option Place → Option Place → Side → Type 0
  FixesDeletion v w root new_root parent d = (k : Focus E) → Short v root parent d k → length k.frames < turns → IsRestored n w new_root k

  -- THE LOOP'S INVARIANT below a member q of the color c: the subtree on side d of q has one black member too few on each path. `sibling` is the subtree of q
  -- on the other side, and the frames of k are the frames above q
  pub record ShortAt (v : Table E) (root : Option Place) (q : Place) (d : Side) (c : Color) (sibling : Tree) (k : Focus E) : Type 0 where
    pub stands : ClimbState n k.base v root (frame d c q sibling ∷ k.frames) k.subtree k.pieces
    pub short : IsShort (frame d c q sibling ∷ k.frames) k.subtree
    pub order : in_order (plug (frame d c q sibling ∷ k.frames) k.subtree) ≡ k.sequence

  -- the subtree on side d of q has one black member too few on each path. y, the child of q on the opposite side, is black
  pub record Beside (v : Table E) (root : Option Place) (q : Place) (d : Side) (y : Place) (c : Color) (sibling : Tree) (k : Focus E) : Type 0 where
    pub at : ShortAt v root q d c sibling k
    pub top_is : top sibling ≡ Some y
    pub black : top_color sibling ≡ Black

  -- y, the child of q on the side opposite to d, is black. Either q is red, because a red sibling was rotated above q, or the frames above q are the frames of
  -- k
  pub record HasBlackSibling (v : Table E) (root : Option Place) (q : Place) (d : Side) (y : Place) (k : Focus E) : Type 0 where
    pub color : Color
    pub sibling : Tree
    pub frames : List Frame
    pub beside : Beside v root q d y color sibling (record k { frames = frames })
    pub red_or_same : (color ≡ Red) ⊎ (frames ≡ k.frames)

  -- CASE 1, a red sibling of the short subtree: it is rotated above q. The result is the new sibling of the short subtree, which is black
  abbrev pub BlackensSibling : Table E → Table E → Option Place → Option Place → Place → Side → Option Place → Type 0
  BlackensSibling v w root new_root q d result =
      (c : Color) (sibling : Tree) (k : Focus E) → ShortAt v root q d c sibling k → Has result (λ y. HasBlackSibling w new_root q d y k)

  -- whether y has a red child
  abbrev pub red_below : Table E → Place → Bool
  red_below v y = red_at v (n (v.entry y)).left || red_at v (n (v.entry y)).right

  -- y and its children are linked
  pub record AreRead (v : Table E) (y : Place) : Type 0 where
    pub here : (n (v.entry y)).linked ≡ true
    pub left : (q : Place) → (n (v.entry y)).left ≡ Some q → (n (v.entry q)).linked ≡ true
    pub right : (q : Place) → (n (v.entry y)).right ≡ Some q → (n (v.entry q)).linked ≡ true

  -- `upper`, the child of q on the side opposite to d, is black. The child of `upper` that is farther from the short subtree is red
  pub record HasRedFarNephew (v : Table E) (root : Option Place) (q : Place) (d : Side) (upper : Place) (c : Color) (k : Focus E) : Type 0 where
    pub near : Tree
    pub left : Tree
    pub far : Place
    pub right : Tree
    pub at : ShortAt v root q d c (branch d Black near upper (fork Red left far right)) k

  -- CASE 3, a red near nephew and a black far nephew: the near nephew is rotated above the sibling y
  abbrev pub RotatesNearNephew : Table E → Table E → Option Place → Option Place → Side → Place → Option Place → Type 0
  RotatesNearNephew v w root new_root d y result =
      (q : Place) (c : Color) (sibling : Tree) (k : Focus E) → Beside v root q d y c sibling k → red_child sibling ≡ true
      → Has result (λ upper. HasRedFarNephew w new_root q d upper c k)

  -- CASE 4, a red far nephew, if need be after case 3: the sibling y is rotated above q, and the tree is right
  abbrev pub RotatesFarNephew : Table E → Table E → Option Place → Option Place → Place → Side → Place → Type 0
  RotatesFarNephew v w root new_root q d y =
      (c : Color) (sibling : Tree) (k : Focus E) → Beside v root q d y c sibling k → red_child sibling ≡ true → IsRestored n w new_root k

  -- the subtree with the root q has one black member too few on each path, and the rest of the tree is right
  pub record Rises (w : Table E) (root : Option Place) (q : Place) (k : Focus E) : Type 0 where
    pub stands : IsInFocus n w root k
    pub top_is : top k.subtree ≡ Some q
    pub short : IsShort k.frames k.subtree
    pub order : in_order (plug k.frames k.subtree) ≡ k.sequence

  -- CASE 2, two black nephews: the sibling y turns red. If q is red, q turns black, and the tree is right. Otherwise the subtree with the root q has one
  -- black member too few on each path
  abbrev pub ReddensSibling : Table E → Table E → Place → Place → Bool → Type 0
  ReddensSibling v w q y done =
      (root : Option Place) (d : Side) (c : Color) (sibling : Tree) (k : Focus E) → Beside v root q d y c sibling k → red_child sibling ≡ false
      → (done ≡ is_red c) × (done ≡ true → IsRestored n w root k) × (done ≡ false → (t : Tree) × Rises w root q (record k { subtree = t }))

  -- ONE STEP OF THE LOOP: if `done` is true, the tree is right. Otherwise the subtree with the root q has one black member too few on each path
  abbrev pub FixesDeletionStep : Table E → Table E → Option Place → Option Place → Place → Side → Bool → Type 0
  FixesDeletionStep v w root new_root q d done =
      (c : Color) (sibling : Tree) (k : Focus E) → ShortAt v root q d c sibling k
      → (done ≡ true → IsRestored n w new_root k) × (done ≡ false → (t : Tree) × Rises w new_root q (record k { subtree = t }))
