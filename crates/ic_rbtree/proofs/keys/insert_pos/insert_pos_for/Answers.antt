use Rattle.std.proofs.Common.{◌≡◌, false, sym, ◌∙◌, subst, append-nil}
use Rattle.ic_link_ops.specs.declared.side.Side.TheVariants.{Right}
use Rattle.ic_link_ops.specs.Sequences.{at_back}
use Rattle.ic_link_ops.proofs.SequenceLemmas.{none_not, some_same}
use Rattle.ic_rbtree.specs.Prelude.{less_at, compared, EndsAt}
use Rattle.ic_rbtree.proofs.InOrder.{ended_in_order}
use Rattle.ic_rbtree.proofs.KeptHeads.{shown, printed, placed_root, room_descent}
use Rattle.ic_rbtree.proofs.LookBounds.{end_placed, kept_is_last, last_there, room_less, after_some, room_below, looks_after, looks_below}
use Rattle.ic_rbtree.proofs.Neighbors.{insert_pos_after}
use Rattle.ic_rbtree.proofs.Sending.{ends_at_root}
use Rattle.ic_rbtree.proofs.keys.insert_pos.insert_pos_for.Goals as goal

pub is_after-requires-clause-placed : goal.is_after-requires-clause-placed
is_after-requires-clause-placed g c =
    let r = c.requires.placed in
    end_placed (g.O.Values.values c.args.objects.now) r.members r.placed c.kept_last-last.result (kept_is_last (g.E.TreeHead.kept c.args.head.now) r.members c.kept_last-last.result c.kept_last-last.ensures (printed g.L.RBTreeOps.node (g.L.LinkOps.table c.args.links.now) (g.E.TreeHead.kept c.args.head.now) r.members r.shown))

pub is_after-requires-clause-room : goal.is_after-requires-clause-room
is_after-requires-clause-room g c = room_less (room_descent (g.E.TreeHead.kept c.args.head.now) _ c.requires.room)

pub returns-then-is_after-clause-insert_pos : goal.returns-then-is_after-clause-insert_pos
returns-then-is_after-clause-insert_pos g c s h =
    let k = g.E.TreeHead.kept c.args.head.now in
    let at = compared (g.P.Probe.order c.args.probe.now) (g.O.Values.values c.args.objects.now) in
    let b = after_some at c.kept_last-last.result (sym c.is_after.ensures.after ∙ c.if-is_after.true) in
    let is = last_there s c.kept_last-last.result (kept_is_last k s c.kept_last-last.result c.kept_last-last.ensures (printed g.L.RBTreeOps.node (g.L.LinkOps.table c.args.links.now) k s h)) b.1 in
    record {
      gap = at_back s;
      same = append-nil s;
      border = record { fails = λ q e. subst (λ z. less_at at z ≡ false) (some_same (sym b.1 ∙ (is ∙ e))) b.2; passes = λ q e. absurd (none_not q e) };
      insert_pos = insert_pos_after g.L.RBTreeOps.node (shown k h) is;
    }

pub returns-then-is_after-clause-looks : goal.returns-then-is_after-clause-looks
returns-then-is_after-clause-looks g c s h =
    let k = g.E.TreeHead.kept c.args.head.now in
    looks_after g.P.Probe.order g.P.Probe.count (g.O.Values.values c.args.objects.now) k s c.kept_last-last.result c.kept_last-last.ensures
    (printed g.L.RBTreeOps.node (g.L.LinkOps.table c.args.links.now) k s h) (sym c.is_after.ensures.after ∙ c.if-is_after.true) c.is_after.ensures.counted c.is_after.ensures.same

pub descend-insert_pos-requires-clause-placed : goal.descend-insert_pos-requires-clause-placed
descend-insert_pos-requires-clause-placed g c = rw c.root.ensures (placed_root (g.E.TreeHead.kept c.args.head.now) c.requires.placed)

pub descend-insert_pos-requires-clause-room : goal.descend-insert_pos-requires-clause-room
descend-insert_pos-requires-clause-room g c = room_below (g.E.TreeHead.kept c.args.head.now) c.kept_last-last.result _ c.kept_last-last.ensures c.requires.room c.is_after.ensures.counted

pub returns-clause-insert_pos : goal.returns-clause-insert_pos
returns-clause-insert_pos g c s h =
    let n = g.L.RBTreeOps.node in
    let v = g.L.LinkOps.table c.args.links.now in
    let values = g.O.Values.values c.args.objects.now in
    let x = shown (g.E.TreeHead.kept c.args.head.now) h in
    ended_in_order n x (subst (λ o. EndsAt n v (compared o values) Right x.tree c.descend-insert_pos.result) c.is_after.ensures.same (ends_at_root n c.root.ensures c.descend-insert_pos.ensures.ends x)) c.get.ensures

pub returns-clause-looks : goal.returns-clause-looks
returns-clause-looks g c s h =
    let k = g.E.TreeHead.kept c.args.head.now in
    looks_below g.P.Probe.order g.P.Probe.count (g.O.Values.values c.args.objects.now) k s c.kept_last-last.result c.kept_last-last.ensures
    (printed g.L.RBTreeOps.node (g.L.LinkOps.table c.args.links.now) k s h) (sym c.is_after.ensures.after ∙ c.if-is_after.false) c.is_after.ensures.counted c.is_after.ensures.same
    (c.descend-insert_pos.ensures.looks s (rw c.root.ensures (shown k h)))
