use Rattle.std.proofs.Common.{None, sym, ◌∙◌}
use Rattle.ic_link_ops.proofs.SequenceLemmas.{some_same, none_not}
use Rattle.ic_rbtree.proofs.Closed.{in_there, in_child, in_linked}
use Rattle.ic_rbtree.proofs.BlackSiblings.{outer_some, color_here, far_rotated}
use Rattle.ic_rbtree.proofs.repair.removal.rotate_far_nephew.Goals as goal

pub rotate_near_nephew-requires : goal.rotate_near_nephew-requires
rotate_near_nephew-requires g c = let r = c.requires in (r.0, r.1, r.2.1)

pub returns-in_default-clause-restored : goal.returns-in_default-clause-restored
returns-in_default-clause-restored g c x sib k h red = absurd (c.in_default.ensures.red_far_nephew c.args.place x sib k h red)

pub returns-in_default-clause-safe : goal.returns-in_default-clause-safe
returns-in_default-clause-safe g c S h i = ((c.rotate_near_nephew.ensures.safe S h i.1).0, tt)

pub child-requires : goal.child-requires
child-requires g c = let r = c.requires in let k = c.rotate_near_nephew.ensures.safe r.0 r.1 r.2.1 in k.0.linked c.in-Some.upper (in_there r.0 k.1.0 c.in-Some.is)

pub returns-in_default-child-clause-restored : goal.returns-in_default-child-clause-restored
returns-in_default-child-clause-restored g c x sib k h red =
    let l = c.in-Some.ensures.red_far_nephew c.args.place x sib k h red in
    absurd (none_not l.far (sym c.in_default-child.is ∙ outer_some g.N.NodeStore.node l c.other-far.result c.child.result c.other-far.ensures c.child.ensures))

pub returns-in_default-child-clause-safe : goal.returns-in_default-child-clause-safe
returns-in_default-child-clause-safe g c S h i = ((c.rotate_near_nephew.ensures.safe S h i.1).0, tt)

pub set_color-requires : goal.set_color-requires
set_color-requires g c =
    let n = g.N.NodeStore.node in
    let r = c.requires in
    let k = c.rotate_near_nephew.ensures.safe r.0 r.1 r.2.1 in
    in_linked n k.0 (in_child n k.0 _ c.in-Some.upper (in_there r.0 k.1.0 c.in-Some.is) c.child.ensures) c.in-Some-child.outer c.in-Some-child.is

pub rotate-requires : goal.rotate-requires
rotate-requires g c =
    let r = c.requires in
    let k = c.rotate_near_nephew.ensures.safe r.0 r.1 r.2.1 in
    (r.0, c.set_color.ensures.safe c.rotate_near_nephew.new.root None r.0 k.0 tt, (r.2.0, (in_there r.0 k.1.0 c.in-Some.is, tt)))

pub returns-clause-restored : goal.returns-clause-restored
returns-clause-restored g c x sib k h red =
    let n = g.N.NodeStore.node in
    let l = c.in-Some.ensures.red_far_nephew c.args.place x sib k h red in
    let f = some_same (sym c.in-Some-child.is ∙ outer_some n l c.other-far.result c.child.result c.other-far.ensures c.child.ensures) in
    far_rotated n l c.in-Some-child.outer f c.set_color.ensures.set c.set_color.ensures.frame c.color-color.result (color_here n l c.color-color.result c.color-color.ensures) c.rotate.ensures.rotated

pub returns-clause-safe : goal.returns-clause-safe
returns-clause-safe g c S h i =
    let k = c.rotate_near_nephew.ensures.safe S h i.1 in
    c.rotate.ensures.safe S (c.set_color.ensures.safe c.rotate_near_nephew.new.root None S k.0 tt) (i.0, (in_there S k.1.0 c.in-Some.is, tt))

pub returns-clause-keeps_links : goal.returns-clause-keeps_links
returns-clause-keeps_links g c =
    let on = g.met.N.NodeStore.keeps_links_on in
    on _ _ _ c.rotate_near_nephew.ensures.keeps_links (on _ _ _ c.set_color.ensures.keeps_links c.rotate.ensures.keeps_links)
