use Rattle.ic_rbtree.proofs.Closed.{parent_written}
use Rattle.ic_rbtree.proofs.repair.writers.set_parent.Goals as goal

pub returns-clause-safe : goal.returns-clause-safe
returns-clause-safe g c root but S h i = parent_written g.N.NodeStore.node h c.set_parent.ensures.frame c.set_parent.ensures.set i.0
