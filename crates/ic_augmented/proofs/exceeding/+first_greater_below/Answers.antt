use Rattle.std.proofs.Common.{rules, arith, refl, sym, ◌∙◌}
use Rattle.ic_link_ops.specs.Trees.{in_order}
use Rattle.ic_augmented.proofs.ConsistencyLemmas.{tree_right}
use Rattle.ic_augmented.proofs.OverlapLemmas.{overlap_left, overlap_here, overlap_right, none_unsorted}
use Rattle.ic_augmented.proofs.exceeding.+first_greater_below.Goals as goal

-- each number is the end of an interval that starts at 0, and exactly the intervals whose number exceeds the bound overlap [bound, 1)
pub returns-then-bound-total : goal.returns-then-bound-total
returns-then-bound-total g t c u tree h e s low =
    overlap_left (λ q. 0) c.args.numbers.now.cells.items c.args.bound 1 g.N.NodeStore.node (g.N.NodeStore.table c.args.links.now) u c.args.turns c.in_ok-here.here
    c.left-left.result _ c.total.result c.left-left.ensures c.total.ensures refl c.first_greater_below.result c.if-bound-total.true
    (λ x y k i z sorted l. c.first_greater_below.ensures x y k i z l) tree (sym c.in_ok-here.was ∙ e) h s (none_unsorted (in_order tree)) low

pub returns-then-bound-value : goal.returns-then-bound-value
returns-then-bound-value g t c u tree h e s low =
    overlap_here (λ q. 0) c.args.numbers.now.cells.items c.args.bound 1 g.N.NodeStore.node (g.N.NodeStore.table c.args.links.now) u c.args.turns c.in_ok-here.here
    c.left-left.result _ c.total.result c.left-left.ensures c.total.ensures refl c.if-bound-total.false (omega arith) (omega (arith, c.value.ensures, c.if-bound-value.true))
    tree (sym c.in_ok-here.was ∙ e) h s (none_unsorted (in_order tree)) low

pub first_greater_below-requires-2 : goal.first_greater_below-requires-2
first_greater_below-requires-2 g t c κs within =
    let r = c.requires in
    let right = tree_right g.N.NodeStore.node (g.N.NodeStore.table c.args.links.now) r.0 c.in_ok-here.here r.1 c.right-right.result r.2 (sym c.in_ok-here.was ∙ r.3) c.right-right.ensures in
    search rules

pub returns : goal.returns
returns g t c u tree h e s low =
    overlap_right (λ q. 0) c.args.numbers.now.cells.items c.args.bound 1 g.N.NodeStore.node (g.N.NodeStore.table c.args.links.now) u c.args.turns c.in_ok-here.here
    c.left-left.result c.right-right.result c.total.result c.left-left.ensures c.total.ensures c.right-right.ensures c.first_greater_below-2.result c.if-bound-total.false
    (omega (arith, c.value.ensures, c.if-bound-value.false)) (λ x y k i z sorted l. c.first_greater_below-2.ensures x y k i z l) tree (sym c.in_ok-here.was ∙ e) h s (none_unsorted (in_order tree)) low
