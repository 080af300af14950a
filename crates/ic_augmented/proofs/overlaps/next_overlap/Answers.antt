use Rattle.std.proofs.Common.{Some, ◌∷◌, refl, sym, ◌∙◌, subst}
use Rattle.ic_link_ops.specs.Frames.{after}
use Rattle.ic_link_ops.specs.Prelude.{ArePlaced, fork, in_order}
use Rattle.ic_augmented.specs.Intervals.{start_in}
use Rattle.ic_augmented.proofs.OverlapLemmas.{placed_left, placed_right, next_below, next_after}
use Rattle.ic_augmented.proofs.SubtreeLemmas.{member_subtree, subtree_linked}
use Rattle.ic_augmented.proofs.overlaps.next_overlap.Goals as goal

pub right-right-requires : goal.right-right-requires
right-right-requires g c =
    let n = g.N.NodeStore.node in
    let v = g.N.NodeStore.table c.args.summed.now.links in
    let r = c.requires in
    let x = member_subtree n v r.0 r.1 c.args.place r.2 r.3 in
    record { linked = subtree_linked n v x.fs (fork x.c x.a c.args.place x.b) c.args.place x.subtree refl }

pub first_overlap_below-requires : goal.first_overlap_below-requires
first_overlap_below-requires g c =
    let n = g.N.NodeStore.node in
    let v = g.N.NodeStore.table c.args.summed.now.links in
    let r = c.requires in
    let x = member_subtree n v r.0 r.1 c.args.place r.2 r.3 in
    let objects = g.O.Values.values c.args.starts.now in
    let following = subst (ArePlaced objects) (sym x.back_is) (placed_right objects r.1 (c.args.place ∷ r.2) r.4).1 in
    (Some c.args.place, x.b, x.subtree.tree.2, c.right-right.ensures ∙ x.subtree.tree.0.right, placed_left objects (in_order x.b) (after x.fs) following)

pub returns-then-from-total : goal.returns-then-from-total
returns-then-from-total g c root front back h sorted =
    next_below g.N.NodeStore.node (g.N.NodeStore.table c.args.summed.now.links) (start_in (g.O.Values.values c.args.starts.now)) c.args.summed.now.summaries.cells.items c.args.from c.args.to root front c.args.place back
    c.right-right.result c.total.result c.first_overlap_below.result c.right-right.ensures c.total.ensures c.if-from-total.true c.first_overlap_below.ensures h sorted

pub first_overlap_after-requires : goal.first_overlap_after-requires
first_overlap_after-requires g c =
    let n = g.N.NodeStore.node in
    let v = g.N.NodeStore.table c.args.summed.now.links in
    let r = c.requires in
    let x = member_subtree n v r.0 r.1 c.args.place r.2 r.3 in
    let objects = g.O.Values.values c.args.starts.now in
    let following = subst (ArePlaced objects) (sym x.back_is) (placed_right objects r.1 (c.args.place ∷ r.2) r.4).1 in
    (x.fs, fork x.c x.a c.args.place x.b, x.subtree, refl, placed_right objects (in_order x.b) (after x.fs) following)

pub returns : goal.returns
returns g c root front back h sorted =
    next_after g.N.NodeStore.node (g.N.NodeStore.table c.args.summed.now.links) (start_in (g.O.Values.values c.args.starts.now)) c.args.summed.now.summaries.cells.items c.args.from c.args.to root front c.args.place back
    c.right-right.result c.total.result c.first_overlap_after.result c.right-right.ensures c.total.ensures c.if-from-total.false c.first_overlap_after.ensures h sorted
