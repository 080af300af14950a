use Rattle.ic_rbtree.proofs.Rotations.{adopts_some}
use Rattle.ic_rbtree.proofs.repair.writers.adopt.Goals as goal

pub set_parent-requires : goal.set_parent-requires
set_parent-requires g c = record { linked = c.requires.child c.in-Some.child c.in-Some.is; named = c.requires.parent }

pub returns-in-Some-clause-moved : goal.returns-in-Some-clause-moved
returns-in-Some-clause-moved g c = adopts_some _ _ _ c.in-Some.child _ _ c.in-Some.is c.set_parent.ensures.set c.set_parent.ensures.frame
