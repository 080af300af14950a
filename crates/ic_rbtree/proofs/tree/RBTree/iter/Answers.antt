use Rattle.std.proofs.Common.{sym, ap, ◌∙◌}
use Rattle.ic_link_ops.specs.PlacedObjects.{values_at}
use Rattle.ic_link_ops.specs.declared.side.Side.TheVariants.{Left, Right}
use Rattle.ic_rbtree.proofs.KeptHeads.{shown, has_ends, end_is}
use Rattle.ic_rbtree.proofs.Walking.{walk_members, walk_all}
use Rattle.ic_rbtree.proofs.tree.RBTree.iter.Goals as goal

pub first-requires : goal.first-requires
first-requires g c = record { shown = has_ends g.L.RBTreeOps.node (g.L.LinkOps.table c.args.links.now) (g.E.TreeHead.kept c.args.self.now.head) c.requires.placed.members c.requires.placed.shown }

pub last-requires : goal.last-requires
last-requires g c = record { shown = has_ends g.L.RBTreeOps.node (g.L.LinkOps.table c.args.links.now) (g.E.TreeHead.kept c.args.self.now.head) c.requires.placed.members c.requires.placed.shown }

pub returns-clause-walks : goal.returns-clause-walks
returns-clause-walks g c s h =
    let k = g.E.TreeHead.kept c.args.self.now.head in
    ap (values_at (g.O.Values.values c.args.objects.now))
    (walk_members g.L.RBTreeOps.node (g.L.LinkOps.table c.args.links.now)
    (λ q e. g.met.L.LinkOps.linked_is_covered c.args.links.now q (sym (g.met.L.RBTreeOps.linked_alike _) ∙ e))
    (walk_all s (rw c.root.ensures (shown k h)) (end_is g.L.RBTreeOps.node (g.L.LinkOps.table c.args.links.now) Left k s c.first.ensures h) (end_is g.L.RBTreeOps.node (g.L.LinkOps.table c.args.links.now) Right k s c.last.ensures h)))

pub returns-clause-can_walk : goal.returns-clause-can_walk
returns-clause-can_walk g c =
    let p = c.requires.placed in
    let k = g.E.TreeHead.kept c.args.self.now.head in
    (p.members, walk_all p.members (rw c.root.ensures (shown k p.shown)) (end_is g.L.RBTreeOps.node (g.L.LinkOps.table c.args.links.now) Left k p.members c.first.ensures p.shown) (end_is g.L.RBTreeOps.node (g.L.LinkOps.table c.args.links.now) Right k p.members c.last.ensures p.shown), p.placed)
