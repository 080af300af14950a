use Rattle.ic_rbtree.proofs.Ends.{hangs_some, hangs_none}
use Rattle.ic_rbtree.proofs.into_iter.hang.Goals as goal

pub returns-in-Some-clause-moved : goal.returns-in-Some-clause-moved
returns-in-Some-clause-moved g c =
    hangs_some g.L.RBTreeOps.node _ _ c.in-Some.parent c.args.parent c.args.to c.args.side c.in-Some.is c.set_child.ensures.set c.set_child.ensures.frame

pub returns-in_default-clause-moved : goal.returns-in_default-clause-moved
returns-in_default-clause-moved g c = hangs_none g.L.RBTreeOps.node _ c.args.parent c.args.to c.args.side c.in_default.is

pub set_child-requires : goal.set_child-requires
set_child-requires g c = record { linked = c.requires.parent c.in-Some.parent c.in-Some.is; named = c.requires.named }
