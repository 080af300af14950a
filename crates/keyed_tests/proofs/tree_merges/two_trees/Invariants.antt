use Rattle.std.proofs.Common.{◌≡◌}
use Rattle.ic_link_ops.specs.RedBlackTree.{Represents}
use Rattle.ic_rbtree.specs.Tree.{root_of}
use Rattle.ic_tree_merges.specs.TwoTrees.{TwoRepresented}
use Rattle.keyed_tests.proofs.tree_merges.two_trees.Given as goal

abbrev pub invariant-loop-index : goal.invariant-loop-index
invariant-loop-index g l = record {
  covers : (g.L.LinkOps.table l.links).extent.places ≡ 8;
  two : TwoRepresented (Represents g.L.RBTreeOps.node) l.objects (g.L.LinkOps.table l.links) (root_of l.tree) (root_of l.other);
}

abbrev pub invariant-loop-index-2 : goal.invariant-loop-index-2
invariant-loop-index-2 g l = record {
  covers : (g.L.LinkOps.table l.links).extent.places ≡ 8;
  two : TwoRepresented (Represents g.L.RBTreeOps.node) l.objects (g.L.LinkOps.table l.links) (root_of l.other) (root_of l.tree);
}
