-- Contracts describe a tree by these definitions.
use Rattle.std.specs.Prelude.{Option}
use Rattle.ic_unsafe_ref.specs.declared.place.Place.{Place}
use Rattle.ic_rbtree.specs.declared.tree.RBTree.{RBTree}
use Rattle.ic_rbtree.specs.Kept.{Kept, RootAndEnds, root_kept}

module _ {A H : Type 0} where
  -- what the tree stores of its members
  abbrev pub head_of : RBTree A H → H
  head_of t = t.head

  -- the root of the tree, none if the tree has no member. `kept` says what the head of the tree stores
  abbrev pub root_in : (H → Kept) → RBTree A H → Option Place
  root_in kept t = root_kept (kept (head_of t))

  -- the adapter with which the tree was made
  abbrev pub adapter_of : RBTree A H → A
  adapter_of t = t.adapter

module _ {A : Type 0} where
  -- the root of a tree that stores its root alone
  abbrev pub root_of : RBTree A (Option Place) → Option Place
  root_of t = head_of t

  -- the root and the ends of a tree that stores its ends
  abbrev pub ends_of : RBTree A RootAndEnds → RootAndEnds
  ends_of t = head_of t
