use Rattle.ic_rbtree.proofs.head.RootTreeHead.unlink.Goals as goal

pub returns-clause-safe : goal.returns-clause-safe
returns-clause-safe g c = rw (← c.self.view_is) c.unlink.ensures.safe
