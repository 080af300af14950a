use Rattle.std.proofs.Common.{[]}
use Rattle.ic_link_ops.specs.Sequences.{join}
use Rattle.ic_rbtree.specs.Kept.{root_kept}
use Rattle.ic_rbtree.proofs.Attaching.{acquired_represented, insert_pos_kept, inserts}
use Rattle.ic_rbtree.proofs.KeptHeads.{shown, printed, inserts_kept, insert_pos_below}
use Rattle.ic_rbtree.proofs.RepresentedClosed.{with_place, represented_closed_but, with_itself, insert_pos_in}
use Rattle.ic_rbtree.proofs.linking.insert.Goals as goal

pub attach-requires : goal.attach-requires
attach-requires g c =
    let n = g.L.RBTreeOps.node in
    let alike = g.met.L.RBTreeOps.linked_alike in
    let r = c.requires.insert_pos in
    let l = g.met.L.LinkOps.does_replay _ _ _ c.if-not-acquire_link.ensures.acquired in
    let old = g.L.LinkOps.table c.args.links.now in
    let now = g.L.LinkOps.table c.acquire_link.new.self in
    let kept = g.E.TreeHead.kept c.args.head.now in
    let s = acquired_represented n g.L.LinkOps.linked alike old now (root_kept kept) (join r.0) c.args.place (shown kept r.1) l.was l.is c.acquire_link.ensures.frame in
    let at = insert_pos_kept n g.L.LinkOps.linked alike old now (root_kept kept) c.args.parent c.args.side r.0 c.args.place (shown kept r.1) l.was c.acquire_link.ensures.frame r.2 in
    (with_place c.args.place (join r.0), represented_closed_but n s, (with_itself n s, (insert_pos_in n now c.args.place c.args.parent c.args.side r.0 at, tt)))

pub returns-clause-inserted : goal.returns-clause-inserted
returns-clause-inserted g c gap h at =
    let n = g.L.RBTreeOps.node in
    let alike = g.met.L.RBTreeOps.linked_alike in
    let l = g.met.L.LinkOps.does_replay _ _ _ c.if-not-acquire_link.ensures.acquired in
    let old = g.L.LinkOps.table c.args.links.now in
    let now = g.L.LinkOps.table c.acquire_link.new.self in
    let kept = g.E.TreeHead.kept c.args.head.now in
    let new = root_kept (g.E.TreeHead.kept c.attach.new.self) in
    let was = shown kept h in
    inserts_kept g.E.TreeHead.kept c.attach.new.self
    (inserts n old now _ (root_kept kept) new c.args.place gap c.acquire_link.ensures.frame
    (c.attach.ensures.attached now gap [] (acquired_represented n g.L.LinkOps.linked alike old now (root_kept kept) (join gap) c.args.place was l.was l.is c.acquire_link.ensures.frame)
    (insert_pos_kept n g.L.LinkOps.linked alike old now (root_kept kept) c.args.parent c.args.side gap c.args.place was l.was c.acquire_link.ensures.frame at)))
    (c.attach.ensures.ends gap (insert_pos_below n old c.args.parent c.args.side gap at) was.held.distinct (printed n old kept (join gap) h))

pub returns-clause-acquired : goal.returns-clause-acquired
returns-clause-acquired g c = c.attach.ensures.keeps_links _ _ c.if-not-acquire_link.ensures.acquired
