use Rattle.std.proofs.Common.{[], sym, ap, ◌∙◌}
use Rattle.std.specs.Option.{option_and}
use Rattle.ic_link_ops.specs.Frames.{plug}
use Rattle.ic_rbtree.proofs.Ends.{at_end, none_left, end_linked, end_child, end_parent, child_linked, parent_linked, off_can, off_next, off_holds, off_frame, taken_off}
use Rattle.ic_rbtree.proofs.NoSteps.{same_nodes}
use Rattle.ic_rbtree.proofs.into_iter.take_end.Goals as goal

pub returns-in_err-place-clause-removed : goal.returns-in_err-place-clause-removed
returns-in_err-place-clause-removed g c w shown =
    none_left g.L.RBTreeOps.node (g.L.LinkOps.table c.args.links.now) c.args.side c.args.near.now c.args.far.now w (sym c.get.ensures ∙ c.in_err-place.was) shown

pub child-below-requires : goal.child-below-requires
child-below-requires g c =
    let n = g.L.RBTreeOps.node in
    let s = c.requires.shown in
    let x = at_end n (g.L.LinkOps.table c.args.links.now) c.args.side c.args.near.now c.args.far.now c.in_ok-place.place s.0 (sym c.get.ensures ∙ c.in_ok-place.was) s.1 in
    end_linked n x

pub parent-parent-requires : goal.parent-parent-requires
parent-parent-requires g c =
    let n = g.L.RBTreeOps.node in
    let s = c.requires.shown in
    let x = at_end n (g.L.LinkOps.table c.args.links.now) c.args.side c.args.near.now c.args.far.now c.in_ok-place.place s.0 (sym c.get.ensures ∙ c.in_ok-place.was) s.1 in
    record { linked = sym (g.met.L.RBTreeOps.linked_alike _) ∙ end_linked n x }

pub adopt-requires : goal.adopt-requires
adopt-requires g c =
    let n = g.L.RBTreeOps.node in
    let s = c.requires.shown in
    let x = at_end n (g.L.LinkOps.table c.args.links.now) c.args.side c.args.near.now c.args.far.now c.in_ok-place.place s.0 (sym c.get.ensures ∙ c.in_ok-place.was) s.1 in
    let child = child_linked n x c.child-below.result (end_child n x c.other.result c.child-below.result c.other.ensures c.child-below.ensures) in
    let parent = parent_linked n x c.parent-parent.result (end_parent n x c.parent-parent.result c.parent-parent.ensures) in
    record { child = child; parent = parent }

pub hang-requires : goal.hang-requires
hang-requires g c =
    let n = g.L.RBTreeOps.node in
    let s = c.requires.shown in
    let x = at_end n (g.L.LinkOps.table c.args.links.now) c.args.side c.args.near.now c.args.far.now c.in_ok-place.place s.0 (sym c.get.ensures ∙ c.in_ok-place.was) s.1 in
    let child = child_linked n x c.child-below.result (end_child n x c.other.result c.child-below.result c.other.ensures c.child-below.ensures) in
    let parent = parent_linked n x c.parent-parent.result (end_parent n x c.parent-parent.result c.parent-parent.ensures) in
    let same = same_nodes n g.met.L.RBTreeOps.linked_alike (g.L.LinkOps.table c.args.links.now) (g.L.LinkOps.table c.adopt.new.links) (g.met.L.LinkOps.does_replay _ _ [] (c.adopt.ensures.keeps_links _ [] (g.met.L.LinkOps.does_nothing _))) in
    record { parent = λ q e. same q ∙ parent q e; named = λ q e. same q ∙ child q e }

pub outer-next-requires : goal.outer-next-requires
outer-next-requires g c =
    let n = g.L.RBTreeOps.node in
    let s = c.requires.shown in
    let x = at_end n (g.L.LinkOps.table c.args.links.now) c.args.side c.args.near.now c.args.far.now c.in_ok-place.place s.0 (sym c.get.ensures ∙ c.in_ok-place.was) s.1 in
    off_can n x (end_child n x c.other.result c.child-below.result c.other.ensures c.child-below.ensures) (end_parent n x c.parent-parent.result c.parent-parent.ensures)
    c.adopt.ensures.moved c.hang.ensures.moved

pub release_link-requires : goal.release_link-requires
release_link-requires g c =
    let n = g.L.RBTreeOps.node in
    let s = c.requires.shown in
    let x = at_end n (g.L.LinkOps.table c.args.links.now) c.args.side c.args.near.now c.args.far.now c.in_ok-place.place s.0 (sym c.get.ensures ∙ c.in_ok-place.was) s.1 in
    let none = c.hang.ensures.trace_stays _ [] (c.adopt.ensures.keeps_links _ [] (g.met.L.LinkOps.does_nothing _)) in
    record { linked = g.met.L.LinkOps.does_replay _ _ [] none c.in_ok-place.place ∙ (sym (g.met.L.RBTreeOps.linked_alike _) ∙ end_linked n x) }

pub returns-clause-removed : goal.returns-clause-removed
returns-clause-removed g c w shown =
    let n = g.L.RBTreeOps.node in
    let x = at_end n (g.L.LinkOps.table c.args.links.now) c.args.side c.args.near.now c.args.far.now c.in_ok-place.place w (sym c.get.ensures ∙ c.in_ok-place.was) shown in
    let ec = end_child n x c.other.result c.child-below.result c.other.ensures c.child-below.ensures in
    let ep = end_parent n x c.parent-parent.result c.parent-parent.ensures in
    taken_off n (plug x.fs x.b) c.args.side c.args.near.now c.args.far.now c.outer-next.result c.of.result c.of-2.result w shown
    (off_holds n x ec ep c.adopt.ensures.moved c.hang.ensures.moved c.release_link.ensures.frame)
    (off_next n x ec ep c.adopt.ensures.moved c.hang.ensures.moved c.outer-next.result c.outer-next.ensures)
    c.of.ensures (c.of-2.ensures ∙ (c.and.ensures ∙ ap (option_and c.outer-next.result) c.get-2.ensures))

pub returns-clause-released : goal.returns-clause-released
returns-clause-released g c =
    let L = g.met.L.LinkOps in
    L.does_on _ _ _ [] _ (c.hang.ensures.trace_stays _ [] (c.adopt.ensures.keeps_links _ [] (L.does_nothing _))) c.release_link.ensures.released

pub returns-clause-frame : goal.returns-clause-frame
returns-clause-frame g c w shown =
    let n = g.L.RBTreeOps.node in
    let x = at_end n (g.L.LinkOps.table c.args.links.now) c.args.side c.args.near.now c.args.far.now c.in_ok-place.place w (sym c.get.ensures ∙ c.in_ok-place.was) shown in
    off_frame n x (end_child n x c.other.result c.child-below.result c.other.ensures c.child-below.ensures) (end_parent n x c.parent-parent.result c.parent-parent.ensures)
    c.adopt.ensures.moved c.hang.ensures.moved c.release_link.ensures.frame
