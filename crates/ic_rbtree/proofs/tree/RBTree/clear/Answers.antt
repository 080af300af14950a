use Rattle.ic_rbtree.proofs.tree.RBTree.clear.Goals as goal

pub returns-clause-frame : goal.returns-clause-frame
returns-clause-frame g c s shown = c.dispose.ensures.frame s (rw c.take.ensures.whole shown)
