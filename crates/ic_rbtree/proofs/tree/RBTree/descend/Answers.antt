use Rattle.ic_rbtree.proofs.Sending.{ends_at_root}
use Rattle.ic_rbtree.proofs.tree.RBTree.descend.Goals as goal

pub returns-clause-ends : goal.returns-clause-ends
returns-clause-ends g c s h = ends_at_root g.L.RBTreeOps.node c.root.ensures c.descend.ensures.ends h
