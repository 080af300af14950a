-- This file counts how often a place occurs in a sequence, in a tree, and in the part of a tree around a subtree.
use Rattle.std.specs.Prelude.{ℕ, ◌+◌, cond, nat_eq, List, [], ◌∷◌}
use Rattle.ic_unsafe_ref.specs.declared.place.Place.{Place}
use Rattle.ic_unsafe_ref.specs.Places.{index_of}
use Rattle.ic_link_ops.specs.Trees.{Tree, leaf, fork}
use Rattle.ic_link_ops.specs.Frames.{Frame, frame}

-- `one_at q p` is 1 if the places q and p are equal, and 0 otherwise.
abbrev pub one_at : Place → Place → ℕ
one_at q p = cond (nat_eq (index_of q) (index_of p)) 1 0

-- The number of times that the place q occurs in a sequence.
abbrev pub times_in : Place → List Place → ℕ
times_in q [] = 0
times_in q (x ∷ s) = one_at q x + times_in q s

-- The number of times that the place q occurs in a tree.
abbrev pub times : Place → Tree → ℕ
times q leaf = 0
times q (fork c a p b) = times q a + one_at q p + times q b

-- The number of times that the place q occurs in a tree outside one subtree. The list of frames describes the tree without this
-- subtree.
abbrev pub times_around : Place → List Frame → ℕ
times_around q [] = 0
times_around q (frame d c p b ∷ fs) = one_at q p + times q b + times_around q fs
