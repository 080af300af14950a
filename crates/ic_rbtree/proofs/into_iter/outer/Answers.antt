use Rattle.ic_rbtree.proofs.Ends.{outer_below, outer_above}
use Rattle.ic_rbtree.proofs.into_iter.outer.Goals as goal

pub returns-in-Some : goal.returns-in-Some
returns-in-Some g c = outer_below g.L.RBTreeOps.node _ c.in-Some.below c.outermost.result c.args.below c.args.parent c.args.side c.in-Some.is c.outermost.ensures

pub returns-in-None : goal.returns-in-None
returns-in-None g c = outer_above g.L.RBTreeOps.node _ c.args.below c.args.parent c.args.side c.in-None.is
