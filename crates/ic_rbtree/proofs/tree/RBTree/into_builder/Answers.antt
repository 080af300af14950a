use Rattle.std.proofs.Common.{None}
use Rattle.ic_rbtree.proofs.Builders.{whole_tree, whole_low, taken_apart}
use Rattle.ic_rbtree.proofs.Removing.{represented_of}
use Rattle.ic_rbtree.proofs.RepresentedClosed.{among, represented_closed}
use Rattle.ic_rbtree.proofs.tree.RBTree.into_builder.Goals as goal

pub step-last-requires : goal.step-last-requires
step-last-requires g c =
    let n = g.N.NodeStore.node in ((λ q. among q c.requires.shown.0), represented_closed n (represented_of n c.requires.shown.1), (tt, tt))

pub tree_to_vine-first-requires-clause-tree : goal.tree_to_vine-first-requires-clause-tree
tree_to_vine-first-requires-clause-tree g c =
    let n = g.N.NodeStore.node in
    let x = c.requires.shown.1 in
    rw c.root.ensures (None, x.tree, whole_tree n x, whole_low n x)

pub returns-clause-taken_apart : goal.returns-clause-taken_apart
returns-clause-taken_apart g c s x =
    let n = g.N.NodeStore.node in
    rw c.from_ends.ensures.ends
    (taken_apart n x c.step-last.ensures (c.tree_to_vine-first.ensures.laid None x.tree (rw c.root.ensures (whole_tree n x)) (whole_low n x)))
