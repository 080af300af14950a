-- This file defines which sequence of places a table represents for a red-black tree.
use Rattle.std.specs.Prelude.{◌≡◌, Bool, true, Option, Some, None, List}
use Rattle.ic_unsafe_ref.specs.declared.place.Place.{Place}
use Rattle.ic_link_ops.specs.declared.color.Color.{Color}
use Rattle.ic_link_ops.specs.Sequences.{IsDistinct, first, last}
use Rattle.ic_link_ops.specs.Tables.{Table}
use Rattle.ic_link_ops.specs.Trees.{Tree, leaf, fork, top, in_order}
use Rattle.ic_link_ops.specs.Shape.{IsRight}

-- The parts of a tree entry: whether its place is linked, its left and its right child, its parent, and its color.
pub record Node : Type 0 where
  pub linked : Bool
  pub left : Option Place
  pub right : Option Place
  pub parent : Option Place
  pub color : Color

module _ {E : Type 0} (node : E → Node) where
  -- The parts of the entry that the table t stores at the place p.
  abbrev pub node_at : Table E → Place → Node
  node_at t p = node (t.entry p)

  -- The entry of the place p says that p is linked, and has the color c, the left child a, the right child b, and the parent
  -- `up`.
  pub record IsAt (entry : Place → E) (p : Place) (c : Color) (a b up : Option Place) : Type 0 where
    pub linked : (node (entry p)).linked ≡ true
    pub left : (node (entry p)).left ≡ a
    pub right : (node (entry p)).right ≡ b
    pub parent : (node (entry p)).parent ≡ up
    pub color : (node (entry p)).color ≡ c

  -- The entries store the tree: the entry of each member has the color, the children and the parent that this member has in the
  -- tree. The parent of the root is `up`.
  abbrev pub IsTree : (Place → E) → Option Place → Tree → Type 0
  IsTree entry up leaf = Unit {0}
  IsTree entry up (fork c a p b) = IsAt entry p c (top a) (top b) up × IsTree entry (Some p) a × IsTree entry (Some p) b

  -- The table t holds the tree. The members of the tree from left to right are s, and no place occurs twice in s. The entries
  -- store the tree's children, parents and colors, and the root has no parent.
  pub record Holds (t : Table E) (tree : Tree) (s : List Place) : Type 0 where
    pub order : in_order tree ≡ s
    pub distinct : IsDistinct s
    pub entries : IsTree t.entry None tree

  -- The table t represents the sequence s for the tree with the given root. This means that t holds a binary tree that has this
  -- root, the members s from left to right, and the red-black shape (`IsRight`). The root is none if s is empty.
  pub record Represents (t : Table E) (root : Option Place) (s : List Place) : Type 0 where
    pub tree : Tree
    pub held : Holds t tree s
    pub starts : root ≡ top tree
    pub shape : IsRight tree

  -- The table represents some sequence of places for the tree with this root.
  abbrev pub RepresentsSome : Table E → Option Place → Type 0
  RepresentsSome t root = (s : List Place) × Represents t root s

  -- The table t holds a binary tree with the members s from left to right. The ends `front` and `back` are the first and the last
  -- member of s, or none if s is empty. The members can have any colors.
  pub record RepresentsEnds (t : Table E) (front back : Option Place) (s : List Place) : Type 0 where
    pub tree : Tree
    pub held : Holds t tree s
    pub starts : front ≡ first s
    pub ends : back ≡ last s
