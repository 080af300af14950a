use Rattle.std.proofs.Common.{None, sym, ◌∙◌}
use Rattle.ic_rbtree.proofs.Closed.{in_child, in_linked}
use Rattle.ic_rbtree.proofs.RedPairs.{uncle_is, uncle_red, uncle_some, fixed_higher, fixed_here, fixed_pair}
use Rattle.ic_rbtree.proofs.RedSiblings.{not_none}
use Rattle.ic_rbtree.proofs.repair.insertion.fix_red_pair_on.Goals as goal

pub is_red-requires : goal.is_red-requires
is_red-requires g c =
    let n = g.N.NodeStore.node in
    let r = c.requires in
    in_linked n r.1 (in_child n r.1 _ c.args.grand r.2.1.1.0 c.child-uncle.ensures)

pub recolor-requires-clause-uncle : goal.recolor-requires-clause-uncle
recolor-requires-clause-uncle g c =
    let n = g.N.NodeStore.node in
    let r = c.requires in
    in_linked n r.1 (in_child n r.1 _ c.args.grand r.2.1.1.0 c.child-uncle.ensures) c.in_ok-red.red c.in_ok-red.was

pub returns-in_err-red-clause-fixed : goal.returns-in_err-red-clause-fixed
returns-in_err-red-clause-fixed g c m k h =
    let n = g.N.NodeStore.node in
    let is = uncle_is n h c.other-far.result c.child-uncle.result c.other-far.ensures c.child-uncle.ensures in
    absurd (not_none c.child-uncle.result (uncle_some n h (sym (uncle_red n h c.child-uncle.result is c.is_red.result c.is_red.ensures) ∙ c.if-is_red.true) c.child-uncle.result is) c.in_err-red.was)

pub returns-then-is_red-clause-fixed : goal.returns-then-is_red-clause-fixed
returns-then-is_red-clause-fixed g c m k h =
    let n = g.N.NodeStore.node in
    let is = uncle_is n h c.other-far.result c.child-uncle.result c.other-far.ensures c.child-uncle.ensures in
    fixed_higher n h c.in_ok-red.red (sym is ∙ c.in_ok-red.was) (sym (uncle_red n h c.child-uncle.result is c.is_red.result c.is_red.ensures) ∙ c.if-is_red.true) c.recolor.ensures.recolored

pub returns-then-is_red-clause-safe : goal.returns-then-is_red-clause-safe
returns-then-is_red-clause-safe g c S h i = (c.recolor.ensures.safe c.args.root.now None S h tt, i.1.1)

pub rotate_inner_grandchild-upper-requires : goal.rotate_inner_grandchild-upper-requires
rotate_inner_grandchild-upper-requires g c = let r = c.requires in (r.0, r.1, (r.2.0, (r.2.1.0, tt)))

pub rotate-requires : goal.rotate-requires
rotate-requires g c =
    let r = c.requires in
    let k = c.rotate_inner_grandchild-upper.ensures.safe r.0 r.1 (r.2.0, (r.2.1.0, tt)) in
    (r.0, k.0, (r.2.1.1.0, (k.1.0, tt)))

pub returns-clause-fixed : goal.returns-clause-fixed
returns-clause-fixed g c m k h =
    let n = g.N.NodeStore.node in
    let is = uncle_is n h c.other-far.result c.child-uncle.result c.other-far.ensures c.child-uncle.ensures in
    fixed_pair n h
    (fixed_here n c.rotate_inner_grandchild-upper.result c.args.grand c.args.side m k
    (c.rotate_inner_grandchild-upper.ensures.outer_grandchild c.args.grand m k h)
    (sym (uncle_red n h c.child-uncle.result is c.is_red.result c.is_red.ensures) ∙ c.if-is_red.false) c.other-far.result c.other-far.ensures c.rotate.ensures.rotated)

pub returns-clause-safe : goal.returns-clause-safe
returns-clause-safe g c S h i =
    let k = c.rotate_inner_grandchild-upper.ensures.safe S h (i.0, (i.1.0, tt)) in
    ((c.rotate.ensures.safe S k.0 (i.1.1.0, (k.1.0, tt))).0, (tt, tt))
