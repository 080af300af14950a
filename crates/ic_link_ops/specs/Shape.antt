-- This file defines when the colors of a red-black tree are right.
use Rattle.std.specs.Prelude.{◌≡◌, ℕ, ◌+◌}
use Rattle.ic_link_ops.specs.declared.color.Color.{Color}
use Rattle.ic_link_ops.specs.declared.color.Color.TheVariants.{Red, Black}
use Rattle.ic_link_ops.specs.Trees.{Tree, leaf, fork}

-- The color of a tree's root. A tree without members counts as black.
abbrev pub top_color : Tree → Color
top_color leaf = Black
top_color (fork c a p b) = c

-- A black member counts as 1 and a red member as 0 when the black members of a path are counted.
abbrev pub weight : Color → ℕ
weight Red = 0
weight Black = 1

-- The number of black members on the path from the root down the left side of the tree.
abbrev pub blacks : Tree → ℕ
blacks leaf = 0
blacks (fork c a p b) = weight c + blacks a

-- All paths from the root down to a missing child have equally many black members.
abbrev pub IsEven : Tree → Type 0
IsEven leaf = Unit {0}
IsEven (fork c a p b) = (blacks a ≡ blacks b) × IsEven a × IsEven b

-- No red member of the tree has a red child.
abbrev pub NoRedPair : Tree → Type 0
NoRedPair leaf = Unit {0}
NoRedPair (fork c a p b) = (c ≡ Red → (top_color a ≡ Black) × (top_color b ≡ Black)) × NoRedPair a × NoRedPair b

-- The tree t has the red-black shape. Its root is black, no red member has a red child, and all paths from the root down to a
-- missing child have equally many black members.
pub record IsRight (t : Tree) : Type 0 where
  pub black_root : top_color t ≡ Black
  pub no_red_pair : NoRedPair t
  pub even : IsEven t
