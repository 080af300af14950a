use Rattle.std.proofs.Common.{rules, sym, ◌∙◌}
use Rattle.ic_augmented.proofs.CountLemmas.{nth_left, nth_here, nth_right}
use Rattle.ic_augmented.proofs.ConsistencyLemmas.{tree_right}
use Rattle.ic_augmented.proofs.ranks.+nth_below.Goals as goal

pub returns-then-position-before : goal.returns-then-position-before
returns-then-position-before g t c u tree h e s few low =
    nth_left g.N.NodeStore.node (g.N.NodeStore.table c.args.links.now) c.args.summaries.now.cells.items u tree c.in_ok-here.here _ _ _ _ h (sym c.in_ok-here.was ∙ e) c.left-left.ensures c.total-before.ensures s few low _ c.if-position-before.true c.nth_below.ensures

pub returns-then-position-before-2 : goal.returns-then-position-before-2
returns-then-position-before-2 g t c u tree h e s few low =
    nth_here g.N.NodeStore.node (g.N.NodeStore.table c.args.links.now) c.args.summaries.now.cells.items u tree c.in_ok-here.here _ _ _ _ h (sym c.in_ok-here.was ∙ e) c.left-left.ensures c.total-before.ensures s few low c.if-position-before-2.true

pub nth_below-requires-2 : goal.nth_below-requires-2
nth_below-requires-2 g t c κs within =
    let r = c.requires in
    let right = tree_right g.N.NodeStore.node (g.N.NodeStore.table c.args.links.now) r.0 c.in_ok-here.here r.1 c.right-right.result r.2 (sym c.in_ok-here.was ∙ r.3) c.right-right.ensures in
    search rules

pub returns : goal.returns
returns g t c u tree h e s few low =
    nth_right g.N.NodeStore.node (g.N.NodeStore.table c.args.links.now) c.args.summaries.now.cells.items u tree c.in_ok-here.here _ _ _ _ h (sym c.in_ok-here.was ∙ e) c.left-left.ensures c.total-before.ensures s few low _ _ c.right-right.ensures
    c.if-position-before.false c.if-position-before-2.false c.nth_below-2.ensures
