use Rattle.std.proofs.Common.{List}
use Rattle.ic_link_ops.specs.Prelude.{Place, values_at}
use Rattle.ic_link_ops.specs.RedBlackTree.{Represents}
use Rattle.ic_rbtree.specs.Iter.{objects_left}
use Rattle.ic_rbtree.specs.Tree.{root_of, adapter_of}
use Rattle.ic_check.proofs.SortedTrees.{GoesOn}
use Rattle.ic_check.proofs.sorted.is_sorted.Given as goal

abbrev pub invariant-loop-value : goal.invariant-loop-value
invariant-loop-value g l =
    let i = goal.iterator-loop-value g in
    let left = objects_left g.L.RBTreeOps.node g.L.LinkOps.table g.O.Values.values in
    i.can_next l.walk × i.is_finite l.walk × i.can_next l.after × i.is_finite l.after
    × ((s : List Place) → Represents g.L.RBTreeOps.node (g.L.LinkOps.table l.links) (root_of l.tree) s
    → GoesOn g.A.Key.Ord.cmp (g.A.KeyAdapter.key_of (adapter_of l.tree)) (values_at (g.O.Values.values l.objects) s) (left l.after) (left l.walk))
