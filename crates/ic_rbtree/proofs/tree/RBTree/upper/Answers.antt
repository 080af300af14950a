use Rattle.std.proofs.Common.{refl, ap, ◌∙◌}
use Rattle.ic_rbtree.specs.Prelude.{compared_within, end_on}
use Rattle.ic_link_ops.specs.declared.side.Side.TheVariants.{Right}
use Rattle.ic_link_ops.proofs.RepresentedTrees.{one_sequence}
use Rattle.ic_rbtree.proofs.KeptHeads.{shown, placed_root, has_ends, end_is}
use Rattle.ic_rbtree.proofs.Sending.{ends_at_root, beyond_included, beyond_excluded, upper_unbounded, upper_border}
use Rattle.ic_rbtree.proofs.tree.RBTree.upper.Goals as goal

pub returns-in-Included-clause-upper : goal.returns-in-Included-clause-upper
returns-in-Included-clause-upper g c s h =
    let n = g.L.RBTreeOps.node in rw c.in-Included.is (beyond_included n h (ends_at_root n c.root-root.ensures c.descend.ensures.ends h) refl)

pub returns-in-Excluded-clause-upper : goal.returns-in-Excluded-clause-upper
returns-in-Excluded-clause-upper g c s h =
    let n = g.L.RBTreeOps.node in rw c.in-Excluded.is (beyond_excluded n h (ends_at_root n c.root-root.ensures c.descend-in-Excluded.ensures.ends h) refl)

pub returns-in-Unbounded-clause-upper : goal.returns-in-Unbounded-clause-upper
returns-in-Unbounded-clause-upper g c s h =
    let k = g.E.TreeHead.kept c.args.self.now.head in
    let r = c.requires.placed in
    rw c.in-Unbounded.is (upper_unbounded g.L.RBTreeOps.node h (c.of.ensures ∙ (end_is g.L.RBTreeOps.node (g.L.LinkOps.table c.args.links.now) Right k r.members c.last.ensures r.shown ∙ ap (end_on Right) (one_sequence (shown k r.shown) h))))

pub returns-in-Included-clause-border : goal.returns-in-Included-clause-border
returns-in-Included-clause-border g c s k =
    let h = shown (g.E.TreeHead.kept c.args.self.now.head) k in
    upper_border g.L.RBTreeOps.node h (compared_within g.P.Probe.order (g.O.Values.values c.args.objects.now) c.args.bound.now) (returns-in-Included-clause-upper g c s h)

pub returns-in-Excluded-clause-border : goal.returns-in-Excluded-clause-border
returns-in-Excluded-clause-border g c s k =
    let h = shown (g.E.TreeHead.kept c.args.self.now.head) k in
    upper_border g.L.RBTreeOps.node h (compared_within g.P.Probe.order (g.O.Values.values c.args.objects.now) c.args.bound.now) (returns-in-Excluded-clause-upper g c s h)

pub returns-in-Unbounded-clause-border : goal.returns-in-Unbounded-clause-border
returns-in-Unbounded-clause-border g c s k =
    let h = shown (g.E.TreeHead.kept c.args.self.now.head) k in
    upper_border g.L.RBTreeOps.node h (compared_within g.P.Probe.order (g.O.Values.values c.args.objects.now) c.args.bound.now) (returns-in-Unbounded-clause-upper g c s h)

pub descend-requires-clause-placed : goal.descend-requires-clause-placed
descend-requires-clause-placed g c = rw c.root-root.ensures (placed_root (g.E.TreeHead.kept c.args.self.now.head) c.requires.placed)

pub returns-in-Included-clause-looks : goal.returns-in-Included-clause-looks
returns-in-Included-clause-looks g c s k = rw c.in-Included.is (c.descend.ensures.looks s (rw c.root-root.ensures (shown (g.E.TreeHead.kept c.args.self.now.head) k)))

pub returns-in-Excluded-clause-looks : goal.returns-in-Excluded-clause-looks
returns-in-Excluded-clause-looks g c s k = rw c.in-Excluded.is (c.descend-in-Excluded.ensures.looks s (rw c.root-root.ensures (shown (g.E.TreeHead.kept c.args.self.now.head) k)))

pub last-requires : goal.last-requires
last-requires g c = record { shown = has_ends g.L.RBTreeOps.node (g.L.LinkOps.table c.args.links.now) (g.E.TreeHead.kept c.args.self.now.head) c.requires.placed.members c.requires.placed.shown }

pub descend-requires-in-Excluded-clause-placed : goal.descend-requires-in-Excluded-clause-placed
descend-requires-in-Excluded-clause-placed g c = rw c.root-root.ensures (placed_root (g.E.TreeHead.kept c.args.self.now.head) c.requires.placed)
