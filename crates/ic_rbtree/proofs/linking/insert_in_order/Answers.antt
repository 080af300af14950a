use Rattle.ic_rbtree.proofs.InOrder.{still_kept, fits_safe, fitted}
use Rattle.ic_rbtree.proofs.KeptHeads.{shown}
use Rattle.ic_rbtree.proofs.linking.insert_in_order.Goals as goal

pub insert_pos_for-parent-requires-clause-placed : goal.insert_pos_for-parent-requires-clause-placed
insert_pos_for-parent-requires-clause-placed g c =
    let r = c.requires.placed in
    let l = g.met.L.LinkOps.does_replay _ _ _ c.if-not-acquire_link.ensures.acquired in
    record {
      members = r.members;
      shown = still_kept g.L.RBTreeOps.node g.L.LinkOps.linked g.met.L.RBTreeOps.linked_alike l.was l.is c.acquire_link.ensures.frame (g.E.TreeHead.kept c.args.head.now) r.members r.shown;
      placed = r.placed;
    }

pub attach-requires : goal.attach-requires
attach-requires g c =
    let n = g.L.RBTreeOps.node in
    let alike = g.met.L.RBTreeOps.linked_alike in
    let kept = g.E.TreeHead.kept c.args.head.now in
    let r = c.requires.placed in
    let l = g.met.L.LinkOps.does_replay _ _ _ c.if-not-acquire_link.ensures.acquired in
    let x = c.insert_pos_for-parent.ensures.insert_pos r.members (still_kept n g.L.LinkOps.linked alike l.was l.is c.acquire_link.ensures.frame kept r.members r.shown) in
    fits_safe n g.L.LinkOps.linked alike l.was l.is c.acquire_link.ensures.frame (shown kept r.shown) x

pub returns-clause-inserted : goal.returns-clause-inserted
returns-clause-inserted g c s h =
    let n = g.L.RBTreeOps.node in
    let alike = g.met.L.RBTreeOps.linked_alike in
    let kept = g.E.TreeHead.kept c.args.head.now in
    let l = g.met.L.LinkOps.does_replay _ _ _ c.if-not-acquire_link.ensures.acquired in
    let x = c.insert_pos_for-parent.ensures.insert_pos s (still_kept n g.L.LinkOps.linked alike l.was l.is c.acquire_link.ensures.frame kept s h) in
    fitted n g.L.LinkOps.linked alike l.was l.is c.acquire_link.ensures.frame g.E.TreeHead.kept c.args.head.now c.attach.new.self h x c.attach.ensures.attached c.attach.ensures.ends

pub returns-clause-looks : goal.returns-clause-looks
returns-clause-looks g c s h =
    let l = g.met.L.LinkOps.does_replay _ _ _ c.if-not-acquire_link.ensures.acquired in
    c.insert_pos_for-parent.ensures.looks s (still_kept g.L.RBTreeOps.node g.L.LinkOps.linked g.met.L.RBTreeOps.linked_alike l.was l.is c.acquire_link.ensures.frame (g.E.TreeHead.kept c.args.head.now) s h)
