use Rattle.std.proofs.Common.{Some, sym, ap, ◌∙◌, arith}
use Rattle.ic_link_ops.specs.Prelude.{node_at, blacks}
use Rattle.ic_rbtree.proofs.Spine.{none_is_leaf, at_root, weight_small}
use Rattle.ic_rbtree.proofs.join.roots.black_height.Goals as goal

pub returns-in_default : goal.returns-in_default
returns-in_default g c t h low =
    let i = c.loop.invariant.each t h in
    omega (arith, i.2, ap blacks (none_is_leaf i.0 (sym c.in_default.is ∙ i.1.2)))

pub weight_of-count-requires : goal.weight_of-count-requires
weight_of-count-requires g c =
    let r = c.requires in
    let i = c.loop.invariant.each r.0 r.1 in
    (at_root g.N.NodeStore.node _ i.1.0 c.in-Some.place i.0 i.1.1 (sym c.in-Some.is ∙ i.1.2)).linked

pub left-at-requires : goal.left-at-requires
left-at-requires g c =
    let r = c.requires in
    let i = c.loop.invariant.each r.0 r.1 in
    record { linked = (at_root g.N.NodeStore.node _ i.1.0 c.in-Some.place i.0 i.1.1 (sym c.in-Some.is ∙ i.1.2)).linked }

pub loop-preserved : goal.loop-preserved
loop-preserved g c = record {
  each = λ t h.
      let i = c.loop.invariant.each t h in
      let a = at_root g.N.NodeStore.node _ i.1.0 c.in-Some.place i.0 i.1.1 (sym c.in-Some.is ∙ i.1.2) in
      (a.left, (Some c.in-Some.place, a.below_left, c.left-at.ensures ∙ a.left_is), omega (arith, i.2, a.weighs, c.weight_of-count.ensures), omega (arith, i.3, a.lower));
  small = omega (arith, c.loop.invariant.small, c.weight_of-count.ensures, weight_small (node_at g.N.NodeStore.node (g.N.NodeStore.table c.args.links.now) c.in-Some.place).color);
}

pub returns : goal.returns
returns g c t h low =
    let i = c.loop.invariant.each t h in
    absurd (omega (arith, i.3, low))
