use Rattle.std.proofs.Common.{Some, length, sym, ap, ◌∙◌, arith}
use Rattle.ic_link_ops.specs.RedBlackTree.{node_at}
use Rattle.ic_rbtree.proofs.Cuts.{lowest, lowest_node, lowest_weighs, count_low, upper_node, next_parent, next_side, begins, ends}
use Rattle.ic_rbtree.proofs.Spine.{weight_small}
use Rattle.ic_rbtree.proofs.join.cut.cut_at.Goals as goal

pub loop-init : goal.loop-init
loop-init g c = record { each = λ base root gap ps h at. begins g.N.NodeStore.node c.args.parent h at; keeps_links = g.met.N.NodeStore.keeps_links_still _ }

pub returns-in_default-clause-cut : goal.returns-in_default-clause-cut
returns-in_default-clause-cut g c base root gap ps h at = let i = c.loop.invariant.each base root gap ps h at in ends g.N.NodeStore.node c.in_default.is i.5

pub parent-at-requires : goal.parent-at-requires
parent-at-requires g c =
    let r = c.requires in
    let i = c.loop.invariant.each r.0 r.1 r.2 r.3 r.4 r.5 in
    let low = lowest i.0 c.loop.side c.in-Some.place (sym c.in-Some.is ∙ i.5.parent_is) i.5.side_is in
    record { linked = lowest_node g.N.NodeStore.node i.5.cut c.loop.side low.0 c.in-Some.place low.1 low.2 low.3 }

pub side_below-above-requires : goal.side_below-above-requires
side_below-above-requires g c =
    let n = g.N.NodeStore.node in
    let r = c.requires in
    let i = c.loop.invariant.each r.0 r.1 r.2 r.3 r.4 r.5 in
    let low = lowest i.0 c.loop.side c.in-Some.place (sym c.in-Some.is ∙ i.5.parent_is) i.5.side_is in
    upper_node n i.5.cut c.loop.side low.0 c.in-Some.place low.1 low.2 low.3 (next_parent n i.5.cut c.loop.side low.0 c.in-Some.place low.1 low.2 low.3 c.parent-at.ensures)

pub weight_of-weight-requires : goal.weight_of-weight-requires
weight_of-weight-requires g c =
    let r = c.requires in
    let i = c.loop.invariant.each r.0 r.1 r.2 r.3 r.4 r.5 in
    let low = lowest i.0 c.loop.side c.in-Some.place (sym c.in-Some.is ∙ i.5.parent_is) i.5.side_is in
    lowest_node g.N.NodeStore.node i.5.cut c.loop.side low.0 c.in-Some.place low.1 low.2 low.3

pub overflow_add-height : goal.overflow_add-height
overflow_add-height g c =
    let n = g.N.NodeStore.node in
    let r = c.requires in
    let i = c.loop.invariant.each r.0 r.1 r.2 r.3 r.4 r.5 in
    let low = lowest i.0 c.loop.side c.in-Some.place (sym c.in-Some.is ∙ i.5.parent_is) i.5.side_is in
    omega (arith, count_low n i.5.cut c.loop.side low.0 c.in-Some.place low.1 low.2 low.3, i.5.height_is, c.weight_of-weight.ensures, weight_small (node_at n (g.N.NodeStore.table c.loop.links) c.in-Some.place).color)

pub cut_off-parts-requires : goal.cut_off-parts-requires
cut_off-parts-requires g c =
    let r = c.requires in
    let i = c.loop.invariant.each r.0 r.1 r.2 r.3 r.4 r.5 in
    (r.1, _, record { cut = i.5.cut; parent_is = sym c.in-Some.is ∙ i.5.parent_is; side_is = i.5.side_is; height_is = i.5.height_is })

pub loop-preserved : goal.loop-preserved
loop-preserved g c = record {
  each = λ base root gap ps h at.
      let n = g.N.NodeStore.node in
      let i = c.loop.invariant.each base root gap ps h at in
      let low = lowest i.0 c.loop.side c.in-Some.place (sym c.in-Some.is ∙ i.5.parent_is) i.5.side_is in
      let cut = c.cut_off-parts.ensures.cut root _ low.0 low.1 low.2 low.3 i.5.height_is i.5.cut in
      let up = next_parent n i.5.cut c.loop.side low.0 c.in-Some.place low.1 low.2 low.3 c.parent-at.ensures in (
        low.2,
        Some c.in-Some.place,
        _,
        cut.0,
        cut.1,
        record {
          cut = cut.2;
          parent_is = up;
          side_is = next_side n i.5.cut c.loop.side low.0 c.in-Some.place low.1 low.2 low.3 c.side_below-above.result (λ q e. c.side_below-above.ensures q (up ∙ e));
          height_is = omega (arith, i.5.height_is, lowest_weighs n i.5.cut c.loop.side low.0 c.in-Some.place low.1 low.2 low.3 c.weight_of-weight.ensures);
        },
        omega (arith, i.6, ap length low.3),
      );
  keeps_links = g.met.N.NodeStore.keeps_links_on _ _ _ c.loop.invariant.keeps_links c.cut_off-parts.ensures.keeps_links;
}

pub returns-clause-cut : goal.returns-clause-cut
returns-clause-cut g c base root gap ps h at = let i = c.loop.invariant.each base root gap ps h at in absurd (omega (arith, i.6))
