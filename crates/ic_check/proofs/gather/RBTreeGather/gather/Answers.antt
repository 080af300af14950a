use Rattle.ic_check.proofs.Marking.{only_none}
use Rattle.ic_check.proofs.gather.RBTreeGather.gather.Goals as goal

pub returns-then-mark-clause-gathered : goal.returns-then-mark-clause-gathered
returns-then-mark-clause-gathered g c =
    let k = c.in-Some.ensures in
    let m = c.if-mark.ensures.marked k.0 k.1 in
    (k.0, k.1, k.2, m.0.0, m.0.1)

pub returns-in_default-clause-only : goal.returns-in_default-clause-only
returns-in_default-clause-only g c = only_none g.L.LinkOps.linked (g.L.LinkOps.table c.args.links.now) c.args.marks.now
