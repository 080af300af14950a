use Rattle.std.proofs.Common.{sym, ◌∙◌}
use Rattle.ic_link_ops.proofs.SequenceLemmas.{none_not}
use Rattle.ic_rbtree.proofs.Closed.{in_there, in_child, in_linked}
use Rattle.ic_rbtree.proofs.BlackSiblings.{far_color, far_red_now, near_place, near_there, far_red_then}
use Rattle.ic_rbtree.proofs.repair.removal.rotate_near_nephew.Goals as goal

pub is_red-requires : goal.is_red-requires
is_red-requires g c =
    let n = g.N.NodeStore.node in
    let r = c.requires in
    in_linked n r.1 (in_child n r.1 _ c.args.sibling r.2.0 c.child-outer.ensures)

pub returns-then-is_red-clause-red_far_nephew : goal.returns-then-is_red-clause-red_far_nephew
returns-then-is_red-clause-red_far_nephew g c q x sib k h red =
    let n = g.N.NodeStore.node in
    far_red_now n h (sym (far_color n h c.child-outer.result c.other-far.result c.is_red.result c.other-far.ensures c.child-outer.ensures c.is_red.ensures) ∙ c.if-is_red.true)

pub returns-in_err-near-clause-red_far_nephew : goal.returns-in_err-near-clause-red_far_nephew
returns-in_err-near-clause-red_far_nephew g c q x sib k h red =
    let n = g.N.NodeStore.node in
    let far = sym (far_color n h c.child-outer.result c.other-far.result c.is_red.result c.other-far.ensures c.child-outer.ensures c.is_red.ensures) ∙ c.if-is_red.false in
    absurd (none_not _ (sym c.in_err-near.was ∙ near_there n h red far c.child.result c.child.ensures))

pub rotate-requires : goal.rotate-requires
rotate-requires g c =
    let r = c.requires in
    (r.0, r.1, (r.2.0, (in_there r.0 (in_child g.N.NodeStore.node r.1 _ c.args.sibling r.2.0 c.child.ensures) c.in_ok-near.was, tt)))

pub returns-clause-red_far_nephew : goal.returns-clause-red_far_nephew
returns-clause-red_far_nephew g c q x sib k h red =
    let n = g.N.NodeStore.node in
    let far = sym (far_color n h c.child-outer.result c.other-far.result c.is_red.result c.other-far.ensures c.child-outer.ensures c.is_red.ensures) ∙ c.if-is_red.false in
    let z = near_place n h red far c.child.result c.in_ok-near.near c.child.ensures c.in_ok-near.was in
    far_red_then n h red far c.in_ok-near.near z c.other-far.result c.other-far.ensures c.rotate.ensures.rotated

pub returns-clause-safe : goal.returns-clause-safe
returns-clause-safe g c S h i =
    let near = in_there S (in_child g.N.NodeStore.node h _ c.args.sibling i.0 c.child.ensures) c.in_ok-near.was in
    ((c.rotate.ensures.safe S h (i.0, (near, tt))).0, (near, tt))
