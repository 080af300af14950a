use Rattle.std.proofs.Common.{None, ◌∙◌}
use Rattle.ic_rbtree.proofs.Closed.{in_child, in_parent, in_linked}
use Rattle.ic_rbtree.proofs.Rotations.{rotates}
use Rattle.ic_rbtree.proofs.repair.writers.rotate.Goals as goal

pub set_child-requires : goal.set_child-requires
set_child-requires g c =
    let n = g.N.NodeStore.node in
    let r = c.requires in
    record { linked = r.1.linked c.args.place r.2.0; named = in_linked n r.1 (in_child n r.1 _ c.args.upper r.2.1.0 c.child-inner.ensures) }

pub adopt-requires : goal.adopt-requires
adopt-requires g c =
    let n = g.N.NodeStore.node in
    let r = c.requires in
    let same = g.met.N.NodeStore.keeps_links_keeps _ _ c.set_child.ensures.keeps_links in
    record { child = λ q e. same q ∙ in_linked n r.1 (in_child n r.1 _ c.args.upper r.2.1.0 c.child-inner.ensures) q e; parent = λ q e. same q ∙ in_linked n r.1 r.2.0 q e }

pub set_parent_and_color-requires : goal.set_parent_and_color-requires
set_parent_and_color-requires g c =
    let n = g.N.NodeStore.node in
    let r = c.requires in
    let same = g.met.N.NodeStore.keeps_links_keeps _ _ (g.met.N.NodeStore.keeps_links_on _ _ _ c.set_child.ensures.keeps_links c.adopt.ensures.keeps_links) in
    record { linked = same c.args.upper ∙ r.1.linked c.args.upper r.2.1.0; named = λ q e. same q ∙ in_linked n r.1 (in_parent n r.1 c.args.place r.2.0 c.parent-parent.ensures) q e }

pub change_child-requires : goal.change_child-requires
change_child-requires g c =
    let n = g.N.NodeStore.node in
    let r = c.requires in
    let on = g.met.N.NodeStore.keeps_links_on in
    let same = g.met.N.NodeStore.keeps_links_keeps _ _ (on _ _ _ c.set_child.ensures.keeps_links (on _ _ _ c.adopt.ensures.keeps_links c.set_parent_and_color.ensures.keeps_links)) in
    record { parent = λ q e. same q ∙ in_linked n r.1 (in_parent n r.1 c.args.place r.2.0 c.parent-parent.ensures) q e; named = λ q e. same q ∙ in_linked n r.1 r.2.1.0 q e }

pub set_child-requires-2 : goal.set_child-requires-2
set_child-requires-2 g c =
    let r = c.requires in
    let on = g.met.N.NodeStore.keeps_links_on in
    let same = g.met.N.NodeStore.keeps_links_keeps _ _ (on _ _ _ c.set_child.ensures.keeps_links (on _ _ _ c.adopt.ensures.keeps_links (on _ _ _ c.set_parent_and_color.ensures.keeps_links c.change_child.ensures.keeps_links))) in
    record { linked = same c.args.upper ∙ r.1.linked c.args.upper r.2.1.0; named = λ q e. same q ∙ in_linked g.N.NodeStore.node r.1 r.2.0 q e }

pub set_parent_and_color-requires-2 : goal.set_parent_and_color-requires-2
set_parent_and_color-requires-2 g c =
    let r = c.requires in
    let on = g.met.N.NodeStore.keeps_links_on in
    let same = g.met.N.NodeStore.keeps_links_keeps _ _ (on _ _ _ c.set_child.ensures.keeps_links (on _ _ _ c.adopt.ensures.keeps_links (on _ _ _ c.set_parent_and_color.ensures.keeps_links (on _ _ _ c.change_child.ensures.keeps_links c.set_child-2.ensures.keeps_links)))) in
    record { linked = same c.args.place ∙ r.1.linked c.args.place r.2.0; named = λ q e. same q ∙ in_linked g.N.NodeStore.node r.1 r.2.1.0 q e }

pub returns-clause-rotated : goal.returns-clause-rotated
returns-clause-rotated g c =
    rotates _ _ _ _ _ _ _ _ _ _ _ _ c.args.upper _ _ c.other.result _ _ c.other.ensures c.child-inner.ensures c.parent-parent.ensures
    c.set_child.ensures.set c.set_child.ensures.frame c.adopt.ensures.moved c.set_parent_and_color.ensures.set c.set_parent_and_color.ensures.frame c.change_child.ensures.moved
    c.set_child-2.ensures.set c.set_child-2.ensures.frame c.set_parent_and_color-2.ensures.set c.set_parent_and_color-2.ensures.frame

pub returns-clause-safe : goal.returns-clause-safe
returns-clause-safe g c S h i =
    let n = g.N.NodeStore.node in
    let root = c.args.root.now in
    let up = i.1.0 in
    let h1 = c.set_child.ensures.safe root None S h (in_child n h _ c.args.upper up c.child-inner.ensures, tt) in
    let h2 = c.adopt.ensures.safe root None S h1 (i.0, tt) in
    let h3 = c.set_parent_and_color.ensures.safe root None S h2 (in_parent n h c.args.place i.0 c.parent-parent.ensures, tt) in
    let h4 = c.change_child.ensures.safe None S h3 (up, tt) in
    let h5 = c.set_child-2.ensures.safe c.change_child.new.root None S h4 (i.0, tt) in
    (c.set_parent_and_color-2.ensures.safe c.change_child.new.root None S h5 (up, tt), tt)

pub returns-clause-keeps_links : goal.returns-clause-keeps_links
returns-clause-keeps_links g c =
    let on = g.met.N.NodeStore.keeps_links_on in
    on _ _ _ c.set_child.ensures.keeps_links (on _ _ _ c.adopt.ensures.keeps_links (on _ _ _ c.set_parent_and_color.ensures.keeps_links (on _ _ _ c.change_child.ensures.keeps_links (on _ _ _ c.set_child-2.ensures.keeps_links c.set_parent_and_color-2.ensures.keeps_links))))
