-- What the removal of a tree's first or last member does. A name with a stroke is a state after the call.
use Rattle.std.specs.Prelude.{◌≡◌, Bool, Option, IfSome, IfNone, List}
use Rattle.std.specs.declared.cmp.Ordering.{Ordering}
use Rattle.ic_link_ops.specs.Prelude.{Place, Table, Unlinks, ChangesOnlyIn}
use Rattle.ic_link_ops.specs.RedBlackTree.{Node, Represents, RepresentsSome}
use Rattle.ic_rbtree.specs.declared.tree.RBTree.{RBTree}
use Rattle.ic_rbtree.specs.Tree.{adapter_of, root_of}
use Rattle.ic_plain.specs.SortedTrees.{StaysInOrder}

-- `cmp`: how two keys compare. `key_of`: the key of an object, as an adapter finds it. `node`: the node of a tree that an entry stores. `is_linked`: whether
-- an entry is that of a linked place. `table` turns the links into a table
module _ {D T K L E : Type 0} (cmp : K → K → Ordering) (key_of : D → T → K) (node : E → Node) (is_linked : E → Bool) (table : L → Table E) where
  -- A MEMBER IS POPPED. Of the members s, the call returns the member `taken s` and leaves the members `rest s`. A tree in order stays in order
  pub record PopsMember (taken : List Place → Option Place) (rest : List Place → List Place)
      (links : L) (tree : RBTree D (Option Place)) (result : Option Place) (links' : L) (tree' : RBTree D (Option Place)) : Type 0 where
    pub answer : (s : List Place) → Represents node (table links) (root_of tree) s → result ≡ taken s
    pub shown : (s : List Place) → Represents node (table links) (root_of tree) s → Represents node (table links') (root_of tree') (rest s)
    pub shows : RepresentsSome node (table links') (root_of tree')
    pub sorted : StaysInOrder cmp key_of node (table links) tree (table links') tree'
    pub unlinked : IfSome result (λ object. Unlinks is_linked (table links) (table links') object)
    pub empty : IfNone result ((tree' ≡ tree) × (links' ≡ links))
    pub adapter : adapter_of tree' ≡ adapter_of tree
    pub frame : (s : List Place) → Represents node (table links) (root_of tree) s → ChangesOnlyIn (table links) (table links') s
