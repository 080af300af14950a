use Rattle.std.proofs.Common.{rules}
use Rattle.ic_rbtree.proofs.tree.RBTree.dispose.Goals as goal

pub returns-clause-frame : goal.returns-clause-frame
returns-clause-frame g c s shown = let kept = rw c.into_iter.ensures.links at (c.finish.ensures.frame s (c.into_iter.ensures.tree s shown)) in search rules
