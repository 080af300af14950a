use Rattle.std.proofs.Common.{◌-◌}
use Rattle.ic_rbtree.proofs.Sending.{Comes}
use Rattle.ic_rbtree.proofs.keys.descent.descend.Given as goal

abbrev pub invariant-loop-at : goal.invariant-loop-at
invariant-loop-at g l =
    Comes g.L.RBTreeOps.node g.P.Probe.order g.P.Probe.count (g.O.Values.values l.objects) (g.L.LinkOps.table l.links) l.fn.root l.equals l.fn.probe l.probe l.at l.descent

abbrev pub decreases-loop-at : goal.decreases-loop-at
decreases-loop-at g l = 18446744073709551616 - g.P.Probe.count l.probe
