use Rattle.std.proofs.Common.{sym, subst}
use Rattle.ic_rbtree.specs.Closed.{IsIn}
use Rattle.ic_rbtree.proofs.Closed.{restarted}
use Rattle.ic_rbtree.proofs.Rotations.{changes_child_some}
use Rattle.ic_rbtree.proofs.repair.writers.change_child.Goals as goal

pub side_of-side-requires : goal.side_of-side-requires
side_of-side-requires g c = c.requires.parent c.in-Some.parent c.in-Some.is

pub set_child-requires : goal.set_child-requires
set_child-requires g c = record { linked = c.requires.parent c.in-Some.parent c.in-Some.is; named = c.requires.named }

pub returns-in-Some-clause-moved : goal.returns-in-Some-clause-moved
returns-in-Some-clause-moved g c = changes_child_some _ _ _ _ _ _ c.in-Some.parent _ _ c.in-Some.is c.side_of-side.ensures c.set_child.ensures.set c.set_child.ensures.frame

pub returns-in_default-clause-safe : goal.returns-in_default-clause-safe
returns-in_default-clause-safe g c but S h i = restarted g.N.NodeStore.node h (subst (λ o. IsIn S o) (sym c.of.ensures) i.0)

pub returns-in-Some-clause-safe : goal.returns-in-Some-clause-safe
returns-in-Some-clause-safe g c but S h i = c.set_child.ensures.safe c.args.root.now but S h i
