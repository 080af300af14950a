use Rattle.std.proofs.Common.{sym}
use Rattle.ic_rbtree.proofs.Beside.{root_can, root_end, outermost_here}
use Rattle.ic_rbtree.proofs.steps.end_on.Goals as goal

pub outermost-requires : goal.outermost-requires
outermost-requires g c = root_can g.L.RBTreeOps.node c.requires.shown.1 c.in_ok-root.was

pub returns : goal.returns
returns g c = record { end = λ s shown. sym (root_end g.L.RBTreeOps.node c.args.side shown c.in_ok-root.was (outermost_here g.L.RBTreeOps.node _ c.outermost.ensures)).0 }
