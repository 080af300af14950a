use Rattle.std.proofs.Common.{List}
use Rattle.ic_unsafe_ref.specs.declared.place.Place.{Place}
use Rattle.ic_link_ops.specs.RedBlackTree.{Represents}
use Rattle.ic_rbtree.specs.Tree.{root_of}
use Rattle.ic_check.proofs.Marking.{Marks}
use Rattle.ic_check.proofs.gather.mark.Given as goal

abbrev pub invariant-loop-current : goal.invariant-loop-current
invariant-loop-current g l =
    (s : List Place) × Represents g.L.RBTreeOps.node (g.L.LinkOps.table l.links) (root_of l.tree) s × Marks s l.initial.marks l.marks l.current l.left

abbrev pub decreases-loop-current : goal.decreases-loop-current
decreases-loop-current g l = l.left
