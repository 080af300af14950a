use Rattle.std.proofs.Common.{rules, ℕ, ◌≡◌, ◌<◌, ◌≤◌, arith, refl, sym, ap, ◌∙◌}
use Rattle.ic_rbtree.specs.SortedObjects.{key_or}
use Rattle.ic_augmented.specs.Prelude.{number_at, start_in}
use Rattle.ic_augmented.proofs.OverlapLemmas.{has_left, has_right, has_here, overlap_left, overlap_none, overlap_here, overlap_right}
use Rattle.ic_augmented.proofs.overlaps.+first_overlap_below.Goals as goal

pub first_overlap_below-requires : goal.first_overlap_below-requires
first_overlap_below-requires g t c κs within =
    let r = c.requires in
    let left = has_left g.N.NodeStore.node (g.N.NodeStore.table c.args.links.now) (g.O.Values.values c.args.starts.now) r.0 c.in_ok-here.here r.1 c.left-left.result r.2 (sym c.in_ok-here.was ∙ r.3) r.4 c.left-left.ensures in
    search rules

pub value-requires : goal.value-requires
value-requires g t c =
    let r = c.requires in
    record { placed = has_here g.N.NodeStore.node (g.N.NodeStore.table c.args.links.now) (g.O.Values.values c.args.starts.now) r.0 c.in_ok-here.here r.1 (sym c.in_ok-here.was ∙ r.3) r.4 }

pub returns-then-from-total : goal.returns-then-from-total
returns-then-from-total g t c u tree h e s sorted low =
    overlap_left (start_in (g.O.Values.values c.args.starts.now)) c.args.ends.now.cells.items c.args.from c.args.to g.N.NodeStore.node (g.N.NodeStore.table c.args.links.now) u c.args.turns c.in_ok-here.here
    c.left-left.result (g.N.NodeStore.node ((g.N.NodeStore.table c.args.links.now).entry c.in_ok-here.here)).right c.total.result c.left-left.ensures c.total.ensures refl
    c.first_overlap_below.result c.if-from-total.true c.first_overlap_below.ensures tree (sym c.in_ok-here.was ∙ e) h s sorted low

pub returns-then-to-value : goal.returns-then-to-value
returns-then-to-value g t c u tree h e s sorted low =
    let start = start_in (g.O.Values.values c.args.starts.now) in
    let is : start c.in_ok-here.here ≡ c.value.result.now = ap (key_or (λ (x : ℕ). x)) c.value.ensures in
    let after : c.args.to ≤ start c.in_ok-here.here = omega (arith, is, c.if-to-value.true) in
    overlap_none start c.args.ends.now.cells.items c.args.from c.args.to g.N.NodeStore.node (g.N.NodeStore.table c.args.links.now) u c.args.turns c.in_ok-here.here
    c.left-left.result (g.N.NodeStore.node ((g.N.NodeStore.table c.args.links.now).entry c.in_ok-here.here)).right c.total.result c.left-left.ensures c.total.ensures refl
    c.if-from-total.false after tree (sym c.in_ok-here.was ∙ e) h s sorted low

pub returns-then-from-value : goal.returns-then-from-value
returns-then-from-value g t c u tree h e s sorted low =
    let start = start_in (g.O.Values.values c.args.starts.now) in
    let is : start c.in_ok-here.here ≡ c.value.result.now = ap (key_or (λ (x : ℕ). x)) c.value.ensures in
    let starts : start c.in_ok-here.here < c.args.to = omega (arith, is, c.if-to-value.false) in
    let ends : c.args.from < number_at c.args.ends.now c.in_ok-here.here = omega (arith, c.value-2.ensures, c.if-from-value.true) in
    overlap_here start c.args.ends.now.cells.items c.args.from c.args.to g.N.NodeStore.node (g.N.NodeStore.table c.args.links.now) u c.args.turns c.in_ok-here.here
    c.left-left.result (g.N.NodeStore.node ((g.N.NodeStore.table c.args.links.now).entry c.in_ok-here.here)).right c.total.result c.left-left.ensures c.total.ensures refl
    c.if-from-total.false starts ends tree (sym c.in_ok-here.was ∙ e) h s sorted low

pub first_overlap_below-requires-2 : goal.first_overlap_below-requires-2
first_overlap_below-requires-2 g t c κs within =
    let r = c.requires in
    let right = has_right g.N.NodeStore.node (g.N.NodeStore.table c.args.links.now) (g.O.Values.values c.args.starts.now) r.0 c.in_ok-here.here r.1 c.right-right.result r.2 (sym c.in_ok-here.was ∙ r.3) r.4 c.right-right.ensures in
    search rules

pub returns : goal.returns
returns g t c u tree h e s sorted low =
    let ends : number_at c.args.ends.now c.in_ok-here.here ≤ c.args.from = omega (arith, c.value-2.ensures, c.if-from-value.false) in
    overlap_right (start_in (g.O.Values.values c.args.starts.now)) c.args.ends.now.cells.items c.args.from c.args.to g.N.NodeStore.node (g.N.NodeStore.table c.args.links.now) u c.args.turns c.in_ok-here.here
    c.left-left.result c.right-right.result c.total.result c.left-left.ensures c.total.ensures c.right-right.ensures
    c.first_overlap_below-2.result c.if-from-total.false ends c.first_overlap_below-2.ensures tree (sym c.in_ok-here.was ∙ e) h s sorted low
