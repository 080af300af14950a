use Rattle.ic_link_ops.specs.RedBlackTree.{RepresentsSome}
use Rattle.ic_rbtree.specs.Tree.{root_of}
use Rattle.claims_tests.proofs.parties.is_cleared.Given as goal

abbrev pub invariant-loop-index : goal.invariant-loop-index
invariant-loop-index g l = RepresentsSome g.L.RBTreeOps.node (g.L.LinkOps.table l.links) (root_of l.tree)
