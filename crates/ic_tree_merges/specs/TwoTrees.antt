-- Two trees can be merged, and one tree can be split in two.
use Rattle.std.specs.Prelude.{◌≡◌, ℕ, ◌+◌, ◌≤◌, Option, List, ◌++◌, length}
use Rattle.std.specs.declared.cmp.Ordering.{Ordering}
use Rattle.ic_link_ops.specs.Prelude.{Place, Objects, IsDisjoint, Table, ChangesOnlyIn, ArePlaced}
use Rattle.ic_link_ops.specs.RedBlackTree.{Node, Represents}
use Rattle.ic_rbtree.specs.declared.tree.RBTree.{RBTree}
use Rattle.ic_rbtree.specs.Height.{IsLowest}
use Rattle.ic_rbtree.specs.Tree.{root_of, adapter_of}
use Rattle.ic_tree_merges.specs.Merges.{Merges, Parts, compared_at}

-- `Represents t head s`: the table t represents the sequence s for the tree with the head `head`
module _ {E H : Type 0} (Represents : Table E → H → List Place → Type 0) where
  -- the trees with the heads a and b share no member, and there is an object at each member
  pub record TwoRepresented {V : Type 0} (objects : Objects V) (t : Table E) (a b : H) : Type 0 where
    pub first : List Place
    pub second : List Place
    pub shown : Represents t a first
    pub other : Represents t b second
    pub apart : IsDisjoint first second
    pub placed : ArePlaced objects first
    pub other_placed : ArePlaced objects second

  module _ (cmp : Place → Place → Ordering) (old new : Table E) where
    -- the tree with the head `head` has the members of s and of u, and only the entries of these members are changed
    pub record MergesTo (head : H) (s u : List Place) : Type 0 where
      pub merged : List Place
      pub shown : Represents new head merged
      pub is : Merges cmp s u merged
      pub frame : ChangesOnlyIn old new (s ++ u)

    -- one tree has the members of s that are equal to members of u, and another tree has the rest of s. Only the entries of members of s are changed
    pub record PartsTo (common_head rest_head : H) (s u : List Place) : Type 0 where
      pub common : List Place
      pub rest : List Place
      pub common_represented : Represents new common_head common
      pub rest_represented : Represents new rest_head rest
      pub apart : IsDisjoint common rest
      pub is : Parts cmp s u common rest
      pub frame : ChangesOnlyIn old new s

    -- one tree has s and those members of u that are equal to no member of s. The other tree has the rest of u. Only the entries of members of s and u are
    -- changed
    pub record UnitesTo (head doubles_head : H) (s u : List Place) : Type 0 where
      pub united : List Place
      pub doubles : List Place
      pub added : List Place
      pub shown : Represents new head united
      pub doubles_represented : Represents new doubles_head doubles
      pub parts : Parts cmp u s doubles added
      pub is : Merges cmp s added united
      pub frame : ChangesOnlyIn old new (s ++ u)

module _ {E : Type 0} (n : E → Node) where
  -- the tree with the root `root` has the least height that is possible for its number of members
  abbrev pub RepresentsLowest : Table E → Option Place → Type 0
  RepresentsLowest t root = (s : List Place) (h : Represents n t root s) → IsLowest h.tree

-- `table` turns the links into a table, and `KeepsLinks` says that no link is acquired or released. `order` says how a comparison compares two objects, and
-- `looks` counts its calls
module _ {E N V C : Type 0} (n : E → Node) (table : N → Table E) (KeepsLinks : N → N → Type 0) (order : C → V → V → Ordering) (looks : C → ℕ) (objects : Objects V) where
  -- A TREE IS SPLIT by the tree `other`: the tree `common` has those members that are equal to a member of `other`, and the tree `rest` has the rest. `old` and
  -- `new` are the links before the call and after it, and `by` and `by'` are the comparison before the call and after it
  pub record SplitsTree {A B : Type 0} (old : N) (by : C) (whole : RBTree A (Option Place)) (other : RBTree B (Option Place)) (new : N) (by' : C)
      (common rest : RBTree A (Option Place)) : Type 0 where
    pub parted : (s u : List Place) → Represents n (table old) (root_of whole) s → Represents n (table old) (root_of other) u → IsDisjoint s u
        → PartsTo (Represents n) (compared_at (order by) objects) (table old) (table new) (root_of common) (root_of rest) s u
    pub lowest : RepresentsLowest n (table new) (root_of common) × RepresentsLowest n (table new) (root_of rest)
    pub few : (s u : List Place) → Represents n (table old) (root_of whole) s → Represents n (table old) (root_of other) u → IsDisjoint s u
        → looks by' ≤ looks by + (length s + length u)
    pub same : order by' ≡ order by
    pub keeps_links : KeepsLinks old new
    pub adapter : adapter_of common ≡ adapter_of whole
    pub rest_adapter : adapter_of rest ≡ adapter_of whole
