-- A tree and its objects together: the values at its members, in the order of their keys.
use Rattle.std.specs.Prelude.{◌≡◌, Bool, true, List, ◌∷◌, ◌++◌, map}
use Rattle.std.specs.List.{AllByRecursion}
use Rattle.std.specs.Ordering.{is_lt}
use Rattle.std.specs.declared.cmp.Ordering.{Ordering}
use Rattle.ic_link_ops.specs.Prelude.{Place, Objects, IsAbsent, Table, IsUnlinked, StandAt}
use Rattle.ic_rbtree.specs.Borders.{IsSorted}

module _ {V K : Type 0} (cmp : K → K → Ordering) (key_of : V → K) where
  -- THE TABLE HAS ONE TREE, and `values` are the objects at its members, in order. No key is less than the key before it, and no other place is linked
  pub record HasSorted {E H : Type 0} (Represents : Table E → H → List Place → Type 0) (linked : E → Bool) (t : Table E) (root : H) (objects : Objects V) (values : List V) : Type 0 where
    pub members : List Place
    pub shown : Represents t root members
    pub stand : StandAt objects members values
    pub sorted : IsSorted cmp (map key_of values)
    pub only : (p : Place) → IsAbsent p members → IsUnlinked linked t p

  -- ONE VALUE MORE: `value` is inserted before exactly the values whose keys are greater, and the new list is sorted by keys
  pub record InsertsValue (old : List V) (value : V) (new : List V) : Type 0 where
    pub front : List V
    pub back : List V
    pub was : old ≡ front ++ back
    pub is : new ≡ front ++ value ∷ back
    pub greater : AllByRecursion (λ later. is_lt (cmp (key_of value) (key_of later)) ≡ true) back
    pub sorted : IsSorted cmp (map key_of new)
