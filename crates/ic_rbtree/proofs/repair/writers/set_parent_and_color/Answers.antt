use Rattle.ic_rbtree.proofs.Closed.{upper_written}
use Rattle.ic_rbtree.proofs.repair.writers.set_parent_and_color.Goals as goal

pub returns-clause-safe : goal.returns-clause-safe
returns-clause-safe g c root but S h i = upper_written g.N.NodeStore.node h c.set_parent_and_color.ensures.frame c.set_parent_and_color.ensures.set i.0
