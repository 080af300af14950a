use Rattle.ic_rbtree.specs.Cursor.{links_of, tree_of, position}
use Rattle.ic_rbtree.specs.Iter.{rest_of, objects_left}
use Rattle.ic_any_collection.proofs.Common.{root_of, Lists}
use Rattle.ic_any_collection.proofs.keyed.list_walk.Given as goal

abbrev pub invariant-loop-places : goal.invariant-loop-places
invariant-loop-places g l =
    Lists g.L.RBTreeOps.node (g.L.LinkOps.table (links_of l.cursor)) (root_of (tree_of l.cursor)) (rest_of g.L.RBTreeOps.node g.L.LinkOps.table l.initial.walk) l.places.items
    (position l.cursor) (objects_left g.L.RBTreeOps.node g.L.LinkOps.table g.O.Values.values l.walk)
