use Rattle.std.proofs.Common.{◌≤◌, ◌-◌, refl, sym, ap, ◌∙◌, subst, arith}
use Rattle.ic_link_ops.specs.Prelude.{node_at, blacks, top_color, IsRight}
use Rattle.ic_rbtree.proofs.Low.{frames_low}
use Rattle.ic_rbtree.proofs.Spine.{none_is_leaf, black_weight, weight_small, spine_as, spine_root, spine_weighs, spine_down}
use Rattle.ic_rbtree.proofs.join.roots.descend_spine.Goals as goal
use Rattle.ic_rbtree.proofs.join.roots.descend_spine.Goals.{else-weight-eq1-via-then-weight-eq1+else-count-want, else-weight-eq1-via-else-weight-eq1}

pub returns-in_default : goal.returns-in_default
returns-in_default g c base t ps h right is less =
    let i = c.loop.invariant.each base t ps h right is less in
    let bare = none_is_leaf i.1 (sym c.in_default.is ∙ i.2.near_is) in
    (i.0, i.1, spine_as g.N.NodeStore.node i.0 i.1 i.2 refl (omega (arith, i.2.blacks_are, ap blacks bare, i.3)), ap top_color bare)

pub weight_of-weight-requires : goal.weight_of-weight-requires
weight_of-weight-requires g c =
    let r = c.requires in
    let i = c.loop.invariant.each r.0 r.1 r.2 r.3 r.4 r.5 r.6 in
    (spine_root g.N.NodeStore.node i.0 i.1 i.2 c.in-Some.is).linked

pub returns-then-count-want : goal.returns-then-count-want
returns-then-count-want g c base t ps h right is less =
    let i = c.loop.invariant.each base t ps h right is less in (
      i.0,
      i.1,
      spine_as g.N.NodeStore.node i.0 i.1 i.2 (sym c.in-Some.is) (i.2.blacks_are ∙ c.if-count-want.true),
      sym (spine_root g.N.NodeStore.node i.0 i.1 i.2 c.in-Some.is).color ∙ black_weight _ (sym c.weight_of-weight.ensures ∙ c.if-weight-eq1.true),
    )

pub overflow_sub-count : goal.overflow_sub-count
overflow_sub-count g c =
    let r = c.requires in
    let i = c.loop.invariant.each r.0 r.1 r.2 r.3 r.4 r.5 r.6 in
    omega (arith, spine_weighs g.N.NodeStore.node i.0 i.1 i.2 c.in-Some.is r.4, c.weight_of-weight.ensures)

pub child-at-requires : goal.child-at-requires
child-at-requires g c =
    let r = c.requires in
    let i = c.loop.invariant.each r.0 r.1 r.2 r.3 r.4 r.5 r.6 in
    (spine_root g.N.NodeStore.node i.0 i.1 i.2 c.in-Some.is).linked

pub loop-preserved : goal.loop-preserved
loop-preserved g c = record {
  each = λ base t ps h right is less.
      let i = c.loop.invariant.each base t ps h right is less in
      let down = spine_down g.N.NodeStore.node i.0 i.1 i.2 c.in-Some.is right c.child-at.ensures c.weight_of-weight.ensures in
      let enough : c.args.want ≤ c.loop.count - c.weight_of-weight.result = elim c.else-weight-eq1.branch [
        | else-weight-eq1-via-then-weight-eq1+else-count-want w ↦ omega (arith, i.3, w.if-weight-eq1.true, w.if-count-want.false)
        | else-weight-eq1-via-else-weight-eq1 w ↦
            omega (arith, i.3, w.if-weight-eq1.false, c.weight_of-weight.ensures, weight_small (node_at g.N.NodeStore.node (g.N.NodeStore.table c.args.links.now) c.in-Some.place).color)
      ] in
      (down.0, down.1, down.2, enough, omega (arith, down.3, i.4));
}

pub returns : goal.returns
returns g c base t ps h right is less =
    let i = c.loop.invariant.each base t ps h right is less in
    absurd (omega (arith, frames_low g.N.NodeStore.node i.2.stands (subst IsRight (sym i.2.same) right), i.4))
