-- What the check of a tree finds out about a subtree.
use Rattle.std.specs.Prelude.{◌≡◌, ◌≤◌, ◌+◌, ℕ, Option, Some, None, List, [], ◌∷◌, length}
use Rattle.ic_link_ops.specs.Prelude.{Place, IsDistinct, Tree, top, in_order, top_color, weight, blacks, IsEven, NoRedPair, Node, IsTree}
use Rattle.ic_link_ops.specs.declared.color.Color.{Color}
use Rattle.ic_link_ops.specs.declared.color.Color.TheVariants.{Red, Black}
use Rattle.ic_rbtree.specs.Height.{height}
use Rattle.ic_check.specs.declared.tree.Subtree.{Subtree}

-- the two children a and b are different places, if both exist
abbrev pub AreApart : Option Place → Option Place → Type 0
AreApart a b = (q : Place) → a ≡ Some q → b ≡ Some q → ⊥

-- a member of the color c may have children of the colors a and b: if c is red, both children are black
abbrev pub AreNoRedPair : Color → Color → Color → Type 0
AreNoRedPair c a b = c ≡ Red → (a ≡ Black) × (b ≡ Black)

-- the result `found` is right for the tree t: it has the number of t's members, the number of black members on the way down the left side, and the color of the
-- root
pub record IsFound (found : Subtree) (t : Tree) : Type 0 where
  pub members : found.members ≡ length (in_order t)
  pub blacks : found.blacks ≡ blacks t
  pub color : found.color ≡ top_color t

-- `found` is the right result for a subtree whose root has the color c, if the checks of its left and right subtrees returned `left` and `right`
pub record IsJoined (c : Color) (left right found : Subtree) : Type 0 where
  pub even : left.blacks ≡ right.blacks
  pub no_red_pair : AreNoRedPair c left.color right.color
  pub members : found.members ≡ left.members + right.members + 1
  pub blacks : found.blacks ≡ weight c + left.blacks
  pub color : found.color ≡ c

-- two subtrees with the results `left` and `right` cannot be below a root of the color c: their numbers of black members differ, or a red member would have a
-- red child
abbrev pub AreUnlike : Color → Subtree → Subtree → Type 0
AreUnlike c left right = left.blacks ≡ right.blacks → AreNoRedPair c left.color right.color → ⊥

module _ {E : Type 0} (n : E → Node) (entry : Place → E) where
  -- w is the path up from o: it begins with o, each further place is the parent of the place before it, and the last place has no parent. If o is none, w is
  -- empty
  abbrev pub IsPathUp : Option Place → List Place → Type 0
  IsPathUp o [] = o ≡ None
  IsPathUp o (p ∷ w) = (o ≡ Some p) × IsPathUp (n (entry p)).parent w

  -- there is a path up from o, so the parents above o lead to a place without a parent
  abbrev pub HasPathUp : Option Place → Type 0
  HasPathUp o = (w : List Place) × IsPathUp o w

  -- the entries represent the tree t, whose root is `at`, and the parent of `at` is `up`. No place occurs twice in t, and t can be a part of a red-black tree
  pub record IsSound (up at : Option Place) (t : Tree) : Type 0 where
    pub entries : IsTree n entry up t
    pub starts : at ≡ top t
    pub distinct : IsDistinct (in_order t)
    pub no_red_pair : NoRedPair t
    pub even : IsEven t

  -- the entries represent a tree with the root `at` below `up` and at most `levels` levels. It can be a part of a red-black tree, and `found` is the right
  -- result for it
  abbrev pub IsTreeBelow : ℕ → Option Place → Option Place → Subtree → Type 0
  IsTreeBelow levels up at found = (t : Tree) × IsSound up at t × (height t ≤ levels) × IsFound found t

  -- the entries represent no tree with the root `at` below `up` and at most `levels` levels that can be a part of a red-black tree
  abbrev pub HasNoTree : ℕ → Option Place → Option Place → Type 0
  HasNoTree levels up at = (t : Tree) → IsSound up at t → height t ≤ levels → ⊥
