-- A walk returns the objects of a container in their order.
use Rattle.std.specs.Prelude.{true, List}
use Rattle.ic_link_ops.specs.Prelude.{Objects, Table}
use Rattle.ic_link_ops.specs.LinkedList.{Neighbors, IsBetween, next_of}
use Rattle.ic_chain.specs.declared.iter.Iter.{Iter}
use Rattle.ic_chain.specs.Iter.{objects_left, CanWalk}

module _ {L E : Type 0} (neighbors : E → Neighbors) (table : L → Table E) {K T : Type 0} where
  -- the objects that a walk has not returned yet
  abbrev pub left_of : Iter K T L (Objects T) → List T
  left_of t = objects_left (next_of neighbors) table (λ (o : Objects T). o) t

  -- the walk can return the first or the last of the objects that are left
  abbrev pub CanWalkOn : Iter K T L (Objects T) → Type 0
  CanWalkOn t = CanWalk true (IsBetween neighbors) table (λ (o : Objects T). o) t
