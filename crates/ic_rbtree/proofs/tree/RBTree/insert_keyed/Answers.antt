use Rattle.std.proofs.Common.{◌∙◌, refl, sym, subst}
use Rattle.ic_link_ops.specs.Prelude.{Place, Objects}
use Rattle.ic_rbtree.specs.Prelude.{compared, own_order, RepresentsKept, InsertsInOrder}
use Rattle.ic_rbtree.proofs.InOrder.{still_kept, fits_safe, fitted, own_is}
use Rattle.ic_rbtree.proofs.KeptHeads.{shown, room_new}
use Rattle.ic_rbtree.proofs.PlacedMembers.{kept_placed}
use Rattle.ic_rbtree.proofs.tree.RBTree.insert_keyed.Goals as goal

pub insert_pos_for-parent-requires-clause-placed : goal.insert_pos_for-parent-requires-clause-placed
insert_pos_for-parent-requires-clause-placed g c =
    let alike = g.met.L.RBTreeOps.linked_alike in
    let kept = g.E.TreeHead.kept c.args.self.now.head in
    let r = c.requires.shown in
    let l = g.met.L.LinkOps.does_replay _ _ _ c.if-not-acquire_link.ensures.acquired in
    kept_placed g.L.RBTreeOps.node g.L.LinkOps.table g.L.Values.values alike g.met.L.LinkOps.linked_is_covered g.met.L.LinkValues.covered_has_value c.acquire_link.new.self kept
    (r.0, still_kept g.L.RBTreeOps.node g.L.LinkOps.linked alike l.was l.is c.acquire_link.ensures.frame kept r.0 r.1)

pub insert_pos_for-parent-requires-clause-room : goal.insert_pos_for-parent-requires-clause-room
insert_pos_for-parent-requires-clause-room g c = rw c.new-probe.ensures.none (room_new (g.E.TreeHead.kept c.args.self.now.head))

pub attach-requires : goal.attach-requires
attach-requires g c =
    let n = g.L.RBTreeOps.node in
    let alike = g.met.L.RBTreeOps.linked_alike in
    let kept = g.E.TreeHead.kept c.args.self.now.head in
    let r = c.requires.shown in
    let l = g.met.L.LinkOps.does_replay _ _ _ c.if-not-acquire_link.ensures.acquired in
    let x = c.insert_pos_for-parent.ensures.insert_pos r.0 (still_kept n g.L.LinkOps.linked alike l.was l.is c.acquire_link.ensures.frame kept r.0 r.1) in
    fits_safe n g.L.LinkOps.linked alike l.was l.is c.acquire_link.ensures.frame (shown kept r.1) x

pub returns-clause-inserted : goal.returns-clause-inserted
returns-clause-inserted g c s h =
    let n = g.L.RBTreeOps.node in
    let alike = g.met.L.RBTreeOps.linked_alike in
    let Represents = RepresentsKept g.E.TreeHead.kept n in
    let l = g.met.L.LinkOps.does_replay _ _ _ c.if-not-acquire_link.ensures.acquired in
    let own = own_order g.A.Key.Ord.cmp (g.A.KeyAdapter.key_of c.args.self.now.adapter) in
    let before = g.L.LinkOps.table c.args.links.now in
    let after = g.L.LinkOps.table c.attach.new.nodes in
    let head = c.attach.new.self in
    let values = g.L.Values.values c.acquire_link.new.self in
    let x = c.insert_pos_for-parent.ensures.insert_pos s (still_kept n g.L.LinkOps.linked alike l.was l.is c.acquire_link.ensures.frame (g.E.TreeHead.kept c.args.self.now.head) s h) in
    subst (λ (p : Place). InsertsInOrder Represents (compared (own (g.L.Values.values c.args.links.now) p) (g.L.Values.values c.args.links.now)) before after head s p) c.place-place.ensures
    (subst (λ (o : Objects g.row.A-Value.Denot). InsertsInOrder Represents (compared (own o c.place-place.result) o) before after head s c.place-place.result)
    (g.met.L.LinkValues.values_stay _ _ c.acquire_link.ensures.frame.extent)
    (subst (λ order. InsertsInOrder Represents (compared order values) before after head s c.place-place.result)
    (own_is g.A.Key.Ord.cmp g.A.KeyAdapter.key_of values c.new-probe.ensures.adapter (c.new-probe.ensures.key ∙ c.get_key.ensures) refl c.value.ensures)
    (fitted n g.L.LinkOps.linked alike l.was l.is c.acquire_link.ensures.frame g.E.TreeHead.kept c.args.self.now.head head h x c.attach.ensures.attached c.attach.ensures.ends)))

pub returns-clause-values : goal.returns-clause-values
returns-clause-values g c =
    let r = c.requires.shown in
    g.met.L.LinkValues.values_stay _ _ (returns-clause-inserted g c r.0 r.1).inserted.frame.extent
