use Rattle.ic_rbtree.proofs.KeptHeads.{shown}
use Rattle.collections_tests.proofs.Ready.{ready_placed}
use Rattle.collections_tests.proofs.tree.summaries.write_overlaps.Goals as goal

pub first_overlap-requires : goal.first_overlap-requires
first_overlap-requires g c =
    let kept = g.E.TreeHead.kept in
    let p = ready_placed kept g.L.LinkOps.linked g.met.L.RBTreeOps.linked_alike g.met.L.LinkOps.linked_is_covered c.numbered.invariant.ready c.numbered.inside.objects c.numbered.invariant.placed in
    (p.members, shown (kept c.numbered.inside.tree.head) p.shown, p.placed)
