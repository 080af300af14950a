use Rattle.std.proofs.Common.{◌≡◌, sym, subst}
use Rattle.ic_link_ops.specs.Prelude.{Place, Objects}
use Rattle.ic_rbtree.specs.Prelude.{compared, InsertsInOrder}
use Rattle.ic_rbtree.specs.Kept.{RepresentsKept, InsertLooks}
use Rattle.ic_rbtree.proofs.InOrder.{still_kept, fits_safe, fitted}
use Rattle.ic_rbtree.proofs.KeptHeads.{shown}
use Rattle.ic_rbtree.proofs.PlacedMembers.{kept_placed}
use Rattle.ic_rbtree.proofs.tree.RBTree.insert_keyed_by.Goals as goal

pub insert_pos_for-parent-requires-clause-placed : goal.insert_pos_for-parent-requires-clause-placed
insert_pos_for-parent-requires-clause-placed g c =
    let alike = g.met.L.RBTreeOps.linked_alike in
    let kept = g.E.TreeHead.kept c.args.self.now.head in
    let r = c.requires.shown in
    let l = g.met.L.LinkOps.does_replay _ _ _ c.if-not-acquire_link.ensures.acquired in
    kept_placed g.L.RBTreeOps.node g.L.LinkOps.table g.L.Values.values alike g.met.L.LinkOps.linked_is_covered g.met.L.LinkValues.covered_has_value c.acquire_link.new.self kept
    (r.0, still_kept g.L.RBTreeOps.node g.L.LinkOps.linked alike l.was l.is c.acquire_link.ensures.frame kept r.0 r.1)

pub attach-requires : goal.attach-requires
attach-requires g c =
    let n = g.L.RBTreeOps.node in
    let alike = g.met.L.RBTreeOps.linked_alike in
    let kept = g.E.TreeHead.kept c.args.self.now.head in
    let r = c.requires.shown in
    let l = g.met.L.LinkOps.does_replay _ _ _ c.if-not-acquire_link.ensures.acquired in
    let x = c.insert_pos_for-parent.ensures.insert_pos r.0 (still_kept n g.L.LinkOps.linked alike l.was l.is c.acquire_link.ensures.frame kept r.0 r.1) in
    fits_safe n g.L.LinkOps.linked alike l.was l.is c.acquire_link.ensures.frame (shown kept r.1) x

pub returns-clause-inserted : goal.returns-clause-inserted
returns-clause-inserted g c s h =
    let n = g.L.RBTreeOps.node in
    let alike = g.met.L.RBTreeOps.linked_alike in
    let Represents = RepresentsKept g.E.TreeHead.kept n in
    let l = g.met.L.LinkOps.does_replay _ _ _ c.if-not-acquire_link.ensures.acquired in
    let order = g.P.Probe.order c.args.probe.now in
    let before = g.L.LinkOps.table c.args.links.now in
    let after = g.L.LinkOps.table c.attach.new.nodes in
    let head = c.attach.new.self in
    let x = c.insert_pos_for-parent.ensures.insert_pos s (still_kept n g.L.LinkOps.linked alike l.was l.is c.acquire_link.ensures.frame (g.E.TreeHead.kept c.args.self.now.head) s h) in
    subst (λ (p : Place). InsertsInOrder Represents (compared order (g.L.Values.values c.args.links.now)) before after head s p) c.place-place.ensures
    (subst (λ (o : Objects g.row.A-Value.Denot). InsertsInOrder Represents (compared order o) before after head s c.place-place.result)
    (g.met.L.LinkValues.values_stay _ _ c.acquire_link.ensures.frame.extent)
    (fitted n g.L.LinkOps.linked alike l.was l.is c.acquire_link.ensures.frame g.E.TreeHead.kept c.args.self.now.head head h x c.attach.ensures.attached c.attach.ensures.ends))

pub returns-clause-values : goal.returns-clause-values
returns-clause-values g c =
    let r = c.requires.shown in
    g.met.L.LinkValues.values_stay _ _ (returns-clause-inserted g c r.0 r.1).inserted.frame.extent

pub returns-clause-looks : goal.returns-clause-looks
returns-clause-looks g c s h =
    let l = g.met.L.LinkOps.does_replay _ _ _ c.if-not-acquire_link.ensures.acquired in
    let kept = g.E.TreeHead.kept c.args.self.now.head in
    subst (λ (o : Objects g.row.A-Value.Denot). InsertLooks g.P.Probe.order g.P.Probe.count kept o c.args.probe.now c.insert_pos_for-parent.new.probe s)
    (g.met.L.LinkValues.values_stay _ _ c.acquire_link.ensures.frame.extent)
    (c.insert_pos_for-parent.ensures.looks s (still_kept g.L.RBTreeOps.node g.L.LinkOps.linked g.met.L.RBTreeOps.linked_alike l.was l.is c.acquire_link.ensures.frame kept s h))
