use Rattle.std.proofs.Common.{sym, ◌∙◌, subst}
use Rattle.ic_link_ops.proofs.SequenceLemmas.{none_not}
use Rattle.ic_rbtree.specs.Removal.{Has, HasBlackSibling}
use Rattle.ic_rbtree.proofs.Closed.{in_there, in_child, in_linked}
use Rattle.ic_rbtree.proofs.RedSiblings.{sib_there, sib_some, sib_top, sib_color, black_already, lowered, black_sibling}
use Rattle.ic_rbtree.proofs.repair.removal.blacken_sibling.Goals as goal

pub returns-in_err-sibling-clause-black_sibling : goal.returns-in_err-sibling-clause-black_sibling
returns-in_err-sibling-clause-black_sibling g c x sib k h =
    absurd (none_not _ (sym c.in_err-sibling.was ∙ sib_there g.N.NodeStore.node h c.other-far.result c.child.result c.other-far.ensures c.child.ensures))

pub is_red-requires : goal.is_red-requires
is_red-requires g c q e =
    let n = g.N.NodeStore.node in
    let r = c.requires in
    in_linked n r.1 (in_child n r.1 _ c.args.place r.2.0 c.child.ensures) q (c.in_ok-sibling.was ∙ e)

pub returns-then-not-is_red-clause-black_sibling : goal.returns-then-not-is_red-clause-black_sibling
returns-then-not-is_red-clause-black_sibling g c x sib k h =
    let n = g.N.NodeStore.node in
    let top = sib_top n h c.other-far.result c.child.result c.in_ok-sibling.sibling c.other-far.ensures c.child.ensures c.in_ok-sibling.was in
    black_already n h top (sym (sib_color n h c.in_ok-sibling.sibling c.is_red.result top c.is_red.ensures) ∙ c.if-not-is_red.true)

pub returns-then-not-is_red-clause-safe : goal.returns-then-not-is_red-clause-safe
returns-then-not-is_red-clause-safe g c S h i =
    (h, (in_there S (in_child g.N.NodeStore.node h _ c.args.place i.0 c.child.ensures) c.in_ok-sibling.was, tt))

pub rotate-requires : goal.rotate-requires
rotate-requires g c =
    let r = c.requires in
    (r.0, r.1, (r.2.0, (in_there r.0 (in_child g.N.NodeStore.node r.1 _ c.args.place r.2.0 c.child.ensures) c.in_ok-sibling.was, tt)))

pub returns-clause-black_sibling : goal.returns-clause-black_sibling
returns-clause-black_sibling g c x sib k h =
    let n = g.N.NodeStore.node in
    let top = sib_top n h c.other-far.result c.child.result c.in_ok-sibling.sibling c.other-far.ensures c.child.ensures c.in_ok-sibling.was in
    let red = sym (sib_color n h c.in_ok-sibling.sibling c.is_red.result top c.is_red.ensures) ∙ c.if-not-is_red.false in
    let low = lowered n h top red c.rotate.ensures.rotated in
    let w = sib_some n low in
    subst (λ o. Has o (λ y. HasBlackSibling n (g.N.NodeStore.table c.rotate.new.links) c.rotate.new.root c.args.place c.args.side y k))
    (sym (sib_there n low c.other-far.result c.child-2.result c.other-far.ensures c.child-2.ensures))
    (black_sibling n h top red c.rotate.ensures.rotated w.0 w.1)

pub returns-clause-safe : goal.returns-clause-safe
returns-clause-safe g c S h i =
    let n = g.N.NodeStore.node in
    let k = c.rotate.ensures.safe S h (i.0, (in_there S (in_child n h _ c.args.place i.0 c.child.ensures) c.in_ok-sibling.was, tt)) in
    (k.0, (in_child n k.0 _ c.args.place i.0 c.child-2.ensures, tt))
