use Rattle.ic_rbtree.proofs.head.RootTreeHead.take_place.Goals as goal

pub returns-clause-taken : goal.returns-clause-taken
returns-clause-taken g c = rw (← c.self.view_is) c.take_place.ensures.taken

pub returns-clause-safe : goal.returns-clause-safe
returns-clause-safe g c = rw (← c.self.view_is) c.take_place.ensures.safe
