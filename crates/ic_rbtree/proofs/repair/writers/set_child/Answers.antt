use Rattle.ic_rbtree.proofs.Closed.{left_written, right_written}
use Rattle.ic_rbtree.proofs.repair.writers.set_child.Goals as goal

pub returns-in-Left-clause-safe : goal.returns-in-Left-clause-safe
returns-in-Left-clause-safe g c root but S h i = left_written g.N.NodeStore.node h c.set_left.ensures.frame c.set_left.ensures.set i.0

pub returns-in-Right-clause-safe : goal.returns-in-Right-clause-safe
returns-in-Right-clause-safe g c root but S h i = right_written g.N.NodeStore.node h c.set_right.ensures.frame c.set_right.ensures.set i.0
