use Rattle.std.proofs.Common.{◌∷◌, ◌++◌, Option, None, refl, sym, ◌∙◌, subst}
use Rattle.ic_unsafe_ref.specs.declared.place.Place.{Place}
use Rattle.ic_link_ops.proofs.SequenceLemmas.{none_not}
use Rattle.ic_rbtree.specs.Prelude.{IsIn, Represented}
use Rattle.ic_rbtree.proofs.Attaching.{insert_pos, attached_first, attached_red}
use Rattle.ic_rbtree.proofs.Closed.{in_there, in_linked, restarted}
use Rattle.ic_rbtree.proofs.Low.{frames_low}
use Rattle.ic_rbtree.proofs.repair.insertion.attach.Goals as goal

pub set_node-requires : goal.set_node-requires
set_node-requires g c =
    record { linked = c.requires.1.linked c.args.place c.requires.2.0; left = λ q e. absurd (none_not q e); right = λ q e. absurd (none_not q e); parent = λ q e. absurd (none_not q e) }

pub set_node-requires-in-Some : goal.set_node-requires-in-Some
set_node-requires-in-Some g c =
    let r = c.requires in
    record { linked = r.1.linked c.args.place r.2.0; left = λ q e. absurd (none_not q e); right = λ q e. absurd (none_not q e); parent = λ q e. in_linked g.N.NodeStore.node r.1 r.2.1.0 q (c.in-Some.is ∙ e) }

pub set_child-requires : goal.set_child-requires
set_child-requires g c =
    let r = c.requires in
    let same = g.met.N.NodeStore.keeps_links_keeps _ _ c.set_node-in-Some.ensures.keeps_links in
    record { linked = same c.in-Some.above ∙ r.1.linked c.in-Some.above (in_there r.0 r.2.1.0 c.in-Some.is); named = λ q e. same q ∙ in_linked g.N.NodeStore.node r.1 r.2.0 q e }

pub insert_fixup-requires : goal.insert_fixup-requires
insert_fixup-requires g c =
    let r = c.requires in
    let root = c.args.root.now in
    let up = in_there r.0 r.2.1.0 c.in-Some.is in
    (r.0, c.set_child.ensures.safe root None r.0 (c.set_node-in-Some.ensures.safe root r.0 r.1 (tt, (tt, (up, tt)))) (r.2.0, tt), (r.2.0, (up, tt)))

pub returns-in-None-clause-attached : goal.returns-in-None-clause-attached
returns-in-None-clause-attached g c base gap ps shown at =
    let n = g.N.NodeStore.node in
    subst (λ (o : Option Place). Represented n base (g.N.NodeStore.table c.set_node.new.links) o (gap.front ++ c.args.place ∷ gap.back) ps) (sym c.of.ensures)
    (attached_first n c.args.parent c.args.side gap c.args.place c.set_node.ensures.set c.set_node.ensures.frame c.in-None.is shown at)

pub returns-in-None-clause-safe : goal.returns-in-None-clause-safe
returns-in-None-clause-safe g c S h i =
    restarted g.N.NodeStore.node (c.set_node.ensures.safe c.args.root.now S h (tt, (tt, (tt, tt)))) (subst (λ o. IsIn S o) (sym c.of.ensures) i.0)

pub returns-in-Some-clause-attached : goal.returns-in-Some-clause-attached
returns-in-Some-clause-attached g c base gap ps shown at =
    let n = g.N.NodeStore.node in
    let x = insert_pos n c.args.parent c.in-Some.above c.args.side gap c.in-Some.is shown at in
    (c.insert_fixup.ensures.restored _
    (attached_red n c.in-Some.above c.args.side gap.front gap.back c.args.place c.set_node-in-Some.ensures.set c.set_node-in-Some.ensures.frame c.set_child.ensures.set c.set_child.ensures.frame x)
    refl
    (frames_low n x.stands x.right)).0

pub returns-in-Some-clause-safe : goal.returns-in-Some-clause-safe
returns-in-Some-clause-safe g c S h i =
    let root = c.args.root.now in
    let up = in_there S i.1.0 c.in-Some.is in
    (c.insert_fixup.ensures.safe S (c.set_child.ensures.safe root None S (c.set_node-in-Some.ensures.safe root S h (tt, (tt, (up, tt)))) (i.0, tt)) (i.0, (up, tt))).0

pub returns-in-Some-clause-keeps_links : goal.returns-in-Some-clause-keeps_links
returns-in-Some-clause-keeps_links g c =
    let on = g.met.N.NodeStore.keeps_links_on in
    on _ _ _ c.set_node-in-Some.ensures.keeps_links (on _ _ _ c.set_child.ensures.keeps_links c.insert_fixup.ensures.keeps_links)
