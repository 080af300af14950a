-- This file defines binary trees whose members are places.
use Rattle.std.specs.Prelude.{Option, Some, None, List, [], ◌∷◌, ◌++◌}
use Rattle.ic_unsafe_ref.specs.declared.place.Place.{Place}
use Rattle.ic_link_ops.specs.declared.color.Color.{Color}

-- A tree either has no members, or it has a root with a color and a subtree on each side.
pub data Tree : Type 0 where
  leaf : Tree
  fork : Color → Tree → Place → Tree → Tree

-- The root of a tree. There is no root if the tree has no members.
abbrev pub top : Tree → Option Place
top leaf = None
top (fork c a p b) = Some p

-- The members of a tree from left to right.
abbrev pub in_order : Tree → List Place
in_order leaf = []
in_order (fork c a p b) = in_order a ++ p ∷ in_order b
