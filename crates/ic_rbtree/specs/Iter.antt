-- Contracts describe a walk over a tree's objects by these definitions.
use Rattle.std.specs.Prelude.{List}
use Rattle.ic_link_ops.specs.Prelude.{Place, Objects, Table, ArePlaced, values_at, Node}
use Rattle.ic_rbtree.specs.Members.{members, between, IsWalk}
use Rattle.ic_rbtree.specs.declared.iter.Iter.{Iter}

module _ {A L O V K E : Type 0} (node : E → Node) (table : L → Table E) where
  -- the members that the walk has not returned yet
  abbrev pub rest_of : Iter A L O V K → List Place
  rest_of t = between t.head t.tail (members node (table t.links.now) t.root)

-- `values` gives the value of the object at each place
module _ {A L O V K E : Type 0} (node : E → Node) (table : L → Table E) (values : O → Objects V) where
  -- the objects that the walk has not returned yet
  abbrev pub objects_left : Iter A L O V K → List V
  objects_left t = values_at (values t.objects.now) (rest_of node table t)

  -- the members w that remain for the walk are consecutive members of the tree, or there are none. Each of them is placed, which means that its place has
  -- an object
  abbrev pub CanWalk : Iter A L O V K → Type 0
  CanWalk t = (w : List Place) × IsWalk node (table t.links.now) t.root t.head t.tail w × ArePlaced (values t.objects.now) w
