use Rattle.std.proofs.Common.{◌≤◌}
use Rattle.ic_rbtree.specs.Tree.{root_of}
use Rattle.collections_tests.specs.Filled.{IsFilled}
use Rattle.collections_tests.proofs.tree.two_trees.fill.Given as goal

abbrev pub invariant-loop-index : goal.invariant-loop-index
invariant-loop-index g l = record {
  low : l.index ≤ l.members;
  filled : IsFilled g.L.RBTreeOps.node g.L.LinkOps.table (root_of l.tree) l.summed l.index;
}
