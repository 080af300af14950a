use Rattle.ic_rbtree.proofs.Closed.{color_written}
use Rattle.ic_rbtree.proofs.repair.writers.set_color.Goals as goal

pub returns-clause-safe : goal.returns-clause-safe
returns-clause-safe g c root but S h i = color_written g.N.NodeStore.node h c.set_color.ensures.frame c.set_color.ensures.set
