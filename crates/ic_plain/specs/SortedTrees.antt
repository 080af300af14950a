-- These definitions are about trees whose members are in the order of their keys.
use Rattle.std.specs.Prelude.{⊤, Option, Bool, not, List, ◌∷◌, ◌++◌, map}
use Rattle.std.specs.List.{filter}
use Rattle.std.specs.declared.cmp.Ordering.{Ordering}
use Rattle.ic_link_ops.specs.Prelude.{Place, Objects, Table, RepresentsPlaced, values_at}
use Rattle.ic_link_ops.specs.RedBlackTree.{Node, Represents}
use Rattle.ic_rbtree.specs.declared.tree.RBTree.{RBTree}
use Rattle.ic_rbtree.specs.Prelude.{IsSorted, at_most_at, equal_at, less_at, compared, order_of, own_order}
use Rattle.ic_rbtree.specs.Tree.{adapter_of, root_of}

module _ {T K : Type 0} (cmp : K → K → Ordering) (key : T → K) where
  -- some sequence is represented, and an object is at each of its members. The keys of these objects are in order: no key is less than the key before
  -- it
  pub record RepresentsInOrder (shows : List Place → Type 0) (objects : Objects T) : Type 0 where
    pub placed : RepresentsPlaced shows objects
    pub sorted : IsSorted cmp (map key (values_at objects placed.members))

-- `cmp`: how two keys compare. `key_of`: the key of an object, as an adapter finds it
module _ {D T K : Type 0} (cmp : K → K → Ordering) (key_of : D → T → K) where
  -- `node`: the node of a tree that an entry stores
  module _ {E : Type 0} (node : E → Node) where
    -- the members that the table represents for the tree are in the order of their keys
    unfoldable pub IsInOrder : Table E → RBTree D (Option Place) → Objects T → Type 0
    IsInOrder t tree objects = RepresentsInOrder cmp (key_of (adapter_of tree)) (Represents node t (root_of tree)) objects

    -- if the old tree is in order, the new tree is in order, whatever objects are at the places
    abbrev pub StaysInOrder : Table E → RBTree D (Option Place) → Table E → RBTree D (Option Place) → Type 0
    StaysInOrder t old u new = (objects : Objects T) → IsInOrder t old objects → IsInOrder u new objects

  module _ (tree : RBTree D (Option Place)) (objects : Objects T) where
    -- the members of the sequence s whose keys are equal to `key`. `from_key` returns the members of s whose keys are equal to `key` or greater
    abbrev pub with_key : K → List Place → List Place
    with_key key s = filter (equal_at (compared (order_of cmp (key_of (adapter_of tree)) key) objects)) s

    abbrev pub from_key : K → List Place → List Place
    from_key key s = filter (at_most_at (compared (order_of cmp (key_of (adapter_of tree)) key) objects)) s

    -- whether the key of the object at p is less than the key of the object at q
    abbrev pub is_before : Place → Place → Bool
    is_before p q = less_at (compared (own_order cmp (key_of (adapter_of tree)) objects p) objects) q

    -- the sequence s with p inserted by its key: after the members whose keys are equal or less, and before the members whose keys are greater
    abbrev pub put_by_key : List Place → Place → List Place
    put_by_key s p = filter (λ q. not (is_before p q)) s ++ p ∷ filter (is_before p) s
