-- A container has a tree with each of its objects, over links of either width.
use Rattle.std.specs.Prelude.{◌≡◌, ℕ, Bool, Option, List}
use Rattle.std.specs.Ordering.{nat_cmp}
use Rattle.ic_link_ops.specs.Prelude.{Place, Objects, is_placed, Table, IsCovered, IsLinked}
use Rattle.ic_link_ops.specs.RedBlackTree.{Node, Represents}
use Rattle.ic_rbtree.specs.SortedValues.{HasSorted}

module _ {L E : Type 0} (node : E → Node) (linked : E → Bool) (table : L → Table E) where
  -- THE LAWS OF A TABLE OF TREES: `node` and `linked` read from each entry whether its place is linked, and agree on it. The table covers every linked place
  pub record ReadsTrees : Type 0 where
    pub alike : (e : E) → (node e).linked ≡ linked e
    pub covered : (links : L) (p : Place) → IsLinked linked (table links) p → IsCovered (table links) p

  -- THE TREE HAS EACH OBJECT: its members have the given values, in the order of a key, and exactly the places of objects are linked
  pub record HasEachIn {V : Type 0} (key_of : V → ℕ) (links : L) (root : Option Place) (objects : Objects V) (values : List V) : Type 0 where
    pub reads : ReadsTrees
    pub sorted : HasSorted nat_cmp key_of (Represents node) linked (table links) root objects values
    pub exact : (p : Place) → linked ((table links).entry p) ≡ is_placed objects p
