use Rattle.std.proofs.Common.{ap, arith}
use Rattle.ic_link_ops.specs.Shape.{blacks}
use Rattle.ic_rbtree.proofs.Pairs.{order_joined, pair_stands, pair_graft, height_low, represented_as, one_more, one_at_most}
use Rattle.ic_rbtree.proofs.join.roots.join_higher.Goals as goal

pub descend_spine-near-requires : goal.descend_spine-near-requires
descend_spine-near-requires g c =
    let k = c.requires.0 in
    let x = c.requires.1 in
    let m = x.measured in
    (k.base, k.one, _, pair_stands g.N.NodeStore.node m.pair, m.pair.one_right, m.one_height, x.lower)

pub graft-grown-requires : goal.graft-grown-requires
graft-grown-requires g c =
    let k = c.requires.0 in
    let x = c.requires.1 in
    let m = x.measured in
    let s = c.descend_spine-near.ensures k.base k.one _ (pair_stands g.N.NodeStore.node m.pair) m.pair.one_right m.one_height x.lower in
    (_, pair_graft g.N.NodeStore.node x s.0 s.1 c.of-root.ensures s.2 s.3)

pub overflow_add-result : goal.overflow_add-result
overflow_add-result g c = omega (arith, height_low g.N.NodeStore.node c.requires.1.measured, c.from.ensures, one_more c.graft-grown.result, one_at_most c.graft-grown.result)

pub returns-clause-joined : goal.returns-clause-joined
returns-clause-joined g c k x =
    let n = g.N.NodeStore.node in
    let m = x.measured in
    let s = c.descend_spine-near.ensures k.base k.one _ (pair_stands n m.pair) m.pair.one_right m.one_height x.lower in
    let r = c.graft-grown.ensures.grafted _ (pair_graft n x s.0 s.1 c.of-root.ensures s.2 s.3) in
    (represented_as n c.get.ensures (order_joined c.args.side s.0 s.1 k.one k.two c.args.place s.2.nothing s.2.same) r.0, omega (arith, m.one_height, r.1, ap blacks s.2.same, c.from.ensures, one_more c.graft-grown.result))
