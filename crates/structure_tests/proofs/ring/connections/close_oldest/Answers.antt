use Rattle.structure_tests.proofs.ring.connections.close_oldest.Goals as goal

pub returns-clause-extent : goal.returns-clause-extent
returns-clause-extent g c = let q = c.requires.idle in (c.pop_front.ensures.frame q.0 q.1).extent
