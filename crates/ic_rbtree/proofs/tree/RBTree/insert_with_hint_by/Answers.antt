use Rattle.std.proofs.Common.{subst, rules}
use Rattle.ic_rbtree.specs.Prelude.{compared, RepresentsKept, InsertsInOrder}
use Rattle.ic_rbtree.specs.InsertPositions.{HintedLooks}
use Rattle.ic_rbtree.proofs.InOrder.{still_represented, fits_safe, fitted}
use Rattle.ic_rbtree.proofs.KeptHeads.{shown, placed_root, member_root}
use Rattle.ic_rbtree.proofs.tree.RBTree.insert_with_hint_by.Goals as goal

pub insert_pos_near-parent-requires-clause-placed : goal.insert_pos_near-parent-requires-clause-placed
insert_pos_near-parent-requires-clause-placed g c =
    let r = placed_root (g.E.TreeHead.kept c.args.self.now.head) c.requires.placed in
    let l = g.met.L.LinkOps.does_replay _ _ _ c.if-not-acquire_link.ensures.acquired in
    rw c.root-root.ensures (record { members = r.members; shown = still_represented g.L.RBTreeOps.node g.L.LinkOps.linked g.met.L.RBTreeOps.linked_alike l.was l.is c.acquire_link.ensures.frame r.shown; placed = r.placed })

pub insert_pos_near-parent-requires-clause-member : goal.insert_pos_near-parent-requires-clause-member
insert_pos_near-parent-requires-clause-member g c =
    let m = member_root (g.E.TreeHead.kept c.args.self.now.head) c.requires.member in
    let n = g.L.RBTreeOps.node in
    let l = g.met.L.LinkOps.does_replay _ _ _ c.if-not-acquire_link.ensures.acquired in
    rw (c.root-root.ensures, c.place.ensures)
    (record { front = m.front; back = m.back; shown = still_represented n g.L.LinkOps.linked g.met.L.RBTreeOps.linked_alike l.was l.is c.acquire_link.ensures.frame m.shown })

pub attach-requires : goal.attach-requires
attach-requires g c =
    let n = g.L.RBTreeOps.node in
    let alike = g.met.L.RBTreeOps.linked_alike in
    let r = placed_root (g.E.TreeHead.kept c.args.self.now.head) c.requires.placed in
    let l = g.met.L.LinkOps.does_replay _ _ _ c.if-not-acquire_link.ensures.acquired in
    let x = c.insert_pos_near-parent.ensures.insert_pos r.members (rw c.root-root.ensures (still_represented n g.L.LinkOps.linked alike l.was l.is c.acquire_link.ensures.frame r.shown)) in
    fits_safe n g.L.LinkOps.linked alike l.was l.is c.acquire_link.ensures.frame r.shown x

pub returns : goal.returns
returns g c = record {
  inserted = λ s h.
      let n = g.L.RBTreeOps.node in
      let alike = g.met.L.RBTreeOps.linked_alike in
      let l = g.met.L.LinkOps.does_replay _ _ _ c.if-not-acquire_link.ensures.acquired in
      let x = c.insert_pos_near-parent.ensures.insert_pos s (rw c.root-root.ensures (still_represented n g.L.LinkOps.linked alike l.was l.is c.acquire_link.ensures.frame (shown (g.E.TreeHead.kept c.args.self.now.head) h))) in
      subst (λ z. InsertsInOrder (RepresentsKept g.E.TreeHead.kept n) (compared (g.P.Probe.order c.args.probe.now) (g.O.Values.values c.args.objects.now))
      (g.L.LinkOps.table c.args.links.now) (g.L.LinkOps.table c.attach.new.nodes) c.attach.new.self s z) c.place-place.ensures
      (fitted n g.L.LinkOps.linked alike l.was l.is c.acquire_link.ensures.frame g.E.TreeHead.kept c.args.self.now.head c.attach.new.self h x c.attach.ensures.attached c.attach.ensures.ends);
  acquired = search rules;
  adapter = search rules;
  refused = search rules;
  unchanged = search rules;
  looks = λ s h.
      let l = g.met.L.LinkOps.does_replay _ _ _ c.if-not-acquire_link.ensures.acquired in
      subst (λ z. HintedLooks g.P.Probe.order g.P.Probe.count (g.O.Values.values c.args.objects.now) z c.args.probe.now c.insert_pos_near-parent.new.probe s) c.place.ensures
      (c.insert_pos_near-parent.ensures.looks s
      (rw c.root-root.ensures (still_represented g.L.RBTreeOps.node g.L.LinkOps.linked g.met.L.RBTreeOps.linked_alike l.was l.is c.acquire_link.ensures.frame (shown (g.E.TreeHead.kept c.args.self.now.head) h))));
  no_look = search rules;
}
