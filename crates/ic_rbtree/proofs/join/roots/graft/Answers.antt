use Rattle.std.proofs.Common.{◌≡◌, ◌+◌, Option, refl, sym, ◌∙◌, subst, arith}
use Rattle.ic_link_ops.specs.Prelude.{Place, blacks, in_order}
use Rattle.ic_link_ops.specs.declared.color.Color.TheVariants.{Red, Black}
use Rattle.ic_link_ops.specs.Frames.{branch, plug}
use Rattle.ic_rbtree.specs.Pieces.{Represented}
use Rattle.ic_rbtree.proofs.Graft.{place_node, place_named, near_named, far_named, parent_named, graft_stands, graft_top, graft_red, graft_blacks, red_safe}
use Rattle.ic_rbtree.proofs.Low.{frames_low}
use Rattle.ic_rbtree.proofs.RedPairs.{red_there}
use Rattle.ic_rbtree.proofs.join.roots.graft.Goals as goal

pub set_child-requires : goal.set_child-requires
set_child-requires g c = record { linked = place_node g.N.NodeStore.node c.requires.1; named = far_named g.N.NodeStore.node c.requires.1 }

pub set_child-requires-2 : goal.set_child-requires-2
set_child-requires-2 g c =
    let n = g.N.NodeStore.node in
    let x = c.requires.1 in
    let same = g.met.N.NodeStore.keeps_links_keeps _ _ c.set_child.ensures.keeps_links in
    record { linked = same c.args.place ∙ place_node n x; named = λ q e. same q ∙ near_named n x q e }

pub set_parent-requires : goal.set_parent-requires
set_parent-requires g c =
    let n = g.N.NodeStore.node in
    let x = c.requires.1 in
    let same = g.met.N.NodeStore.keeps_links_keeps _ _ (g.met.N.NodeStore.keeps_links_on _ _ _ c.set_child.ensures.keeps_links c.set_child-2.ensures.keeps_links) in
    record { linked = same c.args.place ∙ place_node n x; named = λ q e. same q ∙ parent_named n x q e }

pub adopt-requires : goal.adopt-requires
adopt-requires g c =
    let n = g.N.NodeStore.node in
    let x = c.requires.1 in
    let on = g.met.N.NodeStore.keeps_links_on in
    let same = g.met.N.NodeStore.keeps_links_keeps _ _ (on _ _ _ c.set_child.ensures.keeps_links (on _ _ _ c.set_child-2.ensures.keeps_links c.set_parent.ensures.keeps_links)) in
    record { child = λ q e. same q ∙ near_named n x q e; parent = λ q e. same q ∙ place_named n x q e }

pub adopt-requires-2 : goal.adopt-requires-2
adopt-requires-2 g c =
    let n = g.N.NodeStore.node in
    let x = c.requires.1 in
    let on = g.met.N.NodeStore.keeps_links_on in
    let same = g.met.N.NodeStore.keeps_links_keeps _ _ (on _ _ _ c.set_child.ensures.keeps_links (on _ _ _ c.set_child-2.ensures.keeps_links (on _ _ _ c.set_parent.ensures.keeps_links c.adopt.ensures.keeps_links))) in
    record { child = λ q e. same q ∙ far_named n x q e; parent = λ q e. same q ∙ place_named n x q e }

pub set_color-requires : goal.set_color-requires
set_color-requires g c =
    let on = g.met.N.NodeStore.keeps_links_on in
    g.met.N.NodeStore.keeps_links_keeps _ _ (on _ _ _ c.set_child.ensures.keeps_links (on _ _ _ c.set_child-2.ensures.keeps_links (on _ _ _ c.set_parent.ensures.keeps_links (on _ _ _ c.adopt.ensures.keeps_links c.adopt-2.ensures.keeps_links)))) c.args.place
    ∙ place_node g.N.NodeStore.node c.requires.1

pub set_color-requires-in-Some : goal.set_color-requires-in-Some
set_color-requires-in-Some g c =
    let on = g.met.N.NodeStore.keeps_links_on in
    g.met.N.NodeStore.keeps_links_keeps _ _ (on _ _ _ c.set_child.ensures.keeps_links (on _ _ _ c.set_child-2.ensures.keeps_links (on _ _ _ c.set_parent.ensures.keeps_links (on _ _ _ c.adopt.ensures.keeps_links c.adopt-2.ensures.keeps_links)))) c.args.place
    ∙ place_node g.N.NodeStore.node c.requires.1

pub set_child-requires-in-Some : goal.set_child-requires-in-Some
set_child-requires-in-Some g c =
    let n = g.N.NodeStore.node in
    let x = c.requires.1 in
    let on = g.met.N.NodeStore.keeps_links_on in
    let same = g.met.N.NodeStore.keeps_links_keeps _ _ (on _ _ _ c.set_child.ensures.keeps_links (on _ _ _ c.set_child-2.ensures.keeps_links (on _ _ _ c.set_parent.ensures.keeps_links
    (on _ _ _ c.adopt.ensures.keeps_links (on _ _ _ c.adopt-2.ensures.keeps_links c.set_color-in-Some.ensures.keeps_links))))) in
    record { linked = same c.in-Some.above ∙ parent_named n x c.in-Some.above c.in-Some.is; named = λ q e. same q ∙ place_named n x q e }

pub insert_fixup-requires : goal.insert_fixup-requires
insert_fixup-requires g c =
    let n = g.N.NodeStore.node in
    let k = c.requires.0 in
    red_safe n k.frames c.args.side k.far c.args.place k.near
    (graft_red n c.requires.1 c.other.result Red c.other.ensures c.set_child.ensures.set c.set_child.ensures.frame c.set_child-2.ensures.set c.set_child-2.ensures.frame
    c.set_parent.ensures.set c.set_parent.ensures.frame c.adopt.ensures.moved c.adopt-2.ensures.moved c.set_color-in-Some.ensures.set c.set_color-in-Some.ensures.frame
    c.in-Some.above refl c.in-Some.is c.set_child-in-Some.ensures.set c.set_child-in-Some.ensures.frame)
    (sym c.in-Some.is ∙ c.requires.1.parent_is)

pub returns-in-None-clause-grafted : goal.returns-in-None-clause-grafted
returns-in-None-clause-grafted g c k x =
    let n = g.N.NodeStore.node in
    subst (λ (o : Option Place). (h : Represented n k.base (g.N.NodeStore.table c.set_color.new.links) o (in_order (plug k.frames (branch c.args.side Red k.far c.args.place k.near))) k.pieces)
    × (blacks h.tree ≡ blacks (plug k.frames k.near) + 1)) (sym c.of.ensures)
    (graft_top n x c.other.result Black c.other.ensures c.set_child.ensures.set c.set_child.ensures.frame c.set_child-2.ensures.set c.set_child-2.ensures.frame
    c.set_parent.ensures.set c.set_parent.ensures.frame c.adopt.ensures.moved c.adopt-2.ensures.moved c.set_color.ensures.set c.set_color.ensures.frame refl c.in-None.is)

pub returns-in-Some-clause-grafted : goal.returns-in-Some-clause-grafted
returns-in-Some-clause-grafted g c k x =
    let n = g.N.NodeStore.node in
    let r = c.insert_fixup.ensures.restored _
    (graft_red n x c.other.result Red c.other.ensures c.set_child.ensures.set c.set_child.ensures.frame c.set_child-2.ensures.set c.set_child-2.ensures.frame
    c.set_parent.ensures.set c.set_parent.ensures.frame c.adopt.ensures.moved c.adopt-2.ensures.moved c.set_color-in-Some.ensures.set c.set_color-in-Some.ensures.frame
    c.in-Some.above refl c.in-Some.is c.set_child-in-Some.ensures.set c.set_child-in-Some.ensures.frame)
    (sym c.in-Some.is ∙ x.parent_is)
    (frames_low n (graft_stands n x) x.right) in
    (r.0, omega (arith, r.1, graft_blacks n x, red_there k.frames c.in-Some.above (sym x.parent_is ∙ c.in-Some.is)))

pub returns-in-Some-clause-keeps_links : goal.returns-in-Some-clause-keeps_links
returns-in-Some-clause-keeps_links g c =
    let on = g.met.N.NodeStore.keeps_links_on in
    on _ _ _ c.set_child.ensures.keeps_links (on _ _ _ c.set_child-2.ensures.keeps_links (on _ _ _ c.set_parent.ensures.keeps_links (on _ _ _ c.adopt.ensures.keeps_links (on _ _ _ c.adopt-2.ensures.keeps_links
    (on _ _ _ c.set_color-in-Some.ensures.keeps_links (on _ _ _ c.set_child-in-Some.ensures.keeps_links c.insert_fixup.ensures.keeps_links))))))
