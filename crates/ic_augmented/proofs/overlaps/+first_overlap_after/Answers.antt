use Rattle.std.proofs.Common.{rules, ℕ, ◌≡◌, ◌<◌, ◌≤◌, Some, None, arith, refl, sym, ap, ◌∙◌}
use Rattle.ic_rbtree.specs.SortedObjects.{key_or}
use Rattle.ic_augmented.specs.Prelude.{number_at, start_in}
use Rattle.ic_augmented.proofs.OverlapLemmas.{after_up, after_here, after_tree, after_right, after_none, after_this, after_below, after_on}
use Rattle.ic_augmented.proofs.SubtreeLemmas.{subtree_parent}
use Rattle.ic_augmented.proofs.overlaps.+first_overlap_after.Goals as goal

pub first_overlap_after-requires : goal.first_overlap_after-requires
first_overlap_after-requires g t c κs within =
    let n = g.N.NodeStore.node in
    let v = g.N.NodeStore.table c.args.links.now in
    let r = c.requires in
    let eu = sym (subtree_parent n v r.0 r.1 c.args.place r.2 r.3) ∙ (sym c.parent.ensures ∙ c.in_ok-above.was) in
    let up = after_up n v (g.O.Values.values c.args.starts.now) r.0 r.1 c.in_ok-above.above r.2 r.4 eu in
    search rules

pub returns-then-is_at : goal.returns-then-is_at
returns-then-is_at g t c fs u h s e sorted low =
    let n = g.N.NodeStore.node in
    let v = g.N.NodeStore.table c.args.links.now in
    let start = start_in (g.O.Values.values c.args.starts.now) in
    let es = c.args.ends.now.cells.items in
    let eu = sym (subtree_parent n v fs u c.args.place h e) ∙ (sym c.parent.ensures ∙ c.in_ok-above.was) in
    after_right n v start es c.args.from c.args.to c.args.place c.in_ok-above.above c.args.turns c.right-right.result c.right-right.ensures c.first_overlap_after.result c.first_overlap_after.ensures (sym c.is_at.ensures ∙ c.if-is_at.true) fs u eu h s e sorted low

pub value-requires : goal.value-requires
value-requires g t c =
    let n = g.N.NodeStore.node in
    let v = g.N.NodeStore.table c.args.links.now in
    let r = c.requires in
    let eu = sym (subtree_parent n v r.0 r.1 c.args.place r.2 r.3) ∙ (sym c.parent.ensures ∙ c.in_ok-above.was) in
    record { placed = after_here n v (g.O.Values.values c.args.starts.now) c.args.place c.in_ok-above.above c.right-right.result c.right-right.ensures (sym c.is_at.ensures ∙ c.if-is_at.false) r.0 r.1 r.2 r.3 r.4 eu }

pub returns-then-to-value : goal.returns-then-to-value
returns-then-to-value g t c fs u h s e sorted low =
    let n = g.N.NodeStore.node in
    let v = g.N.NodeStore.table c.args.links.now in
    let start = start_in (g.O.Values.values c.args.starts.now) in
    let es = c.args.ends.now.cells.items in
    let eu = sym (subtree_parent n v fs u c.args.place h e) ∙ (sym c.parent.ensures ∙ c.in_ok-above.was) in
    let is : start c.in_ok-above.above ≡ c.value.result.now = ap (key_or (λ (x : ℕ). x)) c.value.ensures in
    let after : c.args.to ≤ start c.in_ok-above.above = omega (arith, is, c.if-to-value.true) in
    after_none n v start es c.args.from c.args.to c.args.place c.in_ok-above.above c.args.turns c.right-right.result c.right-right.ensures None refl after (sym c.is_at.ensures ∙ c.if-is_at.false) fs u eu h s e sorted low

pub returns-then-from-value : goal.returns-then-from-value
returns-then-from-value g t c fs u h s e sorted low =
    let n = g.N.NodeStore.node in
    let v = g.N.NodeStore.table c.args.links.now in
    let start = start_in (g.O.Values.values c.args.starts.now) in
    let es = c.args.ends.now.cells.items in
    let eu = sym (subtree_parent n v fs u c.args.place h e) ∙ (sym c.parent.ensures ∙ c.in_ok-above.was) in
    let is : start c.in_ok-above.above ≡ c.value.result.now = ap (key_or (λ (x : ℕ). x)) c.value.ensures in
    let starts : start c.in_ok-above.above < c.args.to = omega (arith, is, c.if-to-value.false) in
    let ends : c.args.from < number_at c.args.ends.now c.in_ok-above.above = omega (arith, c.value-2.ensures, c.if-from-value.true) in
    after_this n v start es c.args.from c.args.to c.args.place c.in_ok-above.above c.args.turns c.right-right.result c.right-right.ensures (Some c.in_ok-above.above) refl starts ends (sym c.is_at.ensures ∙ c.if-is_at.false) fs u eu h s e sorted low

pub first_overlap_below-requires : goal.first_overlap_below-requires
first_overlap_below-requires g t c =
    let n = g.N.NodeStore.node in
    let v = g.N.NodeStore.table c.args.links.now in
    let r = c.requires in
    let eu = sym (subtree_parent n v r.0 r.1 c.args.place r.2 r.3) ∙ (sym c.parent.ensures ∙ c.in_ok-above.was) in
    after_tree n v (g.O.Values.values c.args.starts.now) c.args.place c.in_ok-above.above c.right-right.result c.right-right.ensures (sym c.is_at.ensures ∙ c.if-is_at.false) r.0 r.1 r.2 r.3 r.4 eu

pub returns-then-from-total : goal.returns-then-from-total
returns-then-from-total g t c fs u h s e sorted low =
    let n = g.N.NodeStore.node in
    let v = g.N.NodeStore.table c.args.links.now in
    let start = start_in (g.O.Values.values c.args.starts.now) in
    let es = c.args.ends.now.cells.items in
    let eu = sym (subtree_parent n v fs u c.args.place h e) ∙ (sym c.parent.ensures ∙ c.in_ok-above.was) in
    let ends : number_at c.args.ends.now c.in_ok-above.above ≤ c.args.from = omega (arith, c.value-2.ensures, c.if-from-value.false) in
    after_below n v start es c.args.from c.args.to c.args.place c.in_ok-above.above c.args.turns c.right-right.result c.right-right.ensures c.first_overlap_below.result c.total.result c.total.ensures ends c.if-from-total.true c.first_overlap_below.ensures (sym c.is_at.ensures ∙ c.if-is_at.false) fs u eu h s e sorted low

pub first_overlap_after-requires-2 : goal.first_overlap_after-requires-2
first_overlap_after-requires-2 g t c κs within =
    let n = g.N.NodeStore.node in
    let v = g.N.NodeStore.table c.args.links.now in
    let r = c.requires in
    let eu = sym (subtree_parent n v r.0 r.1 c.args.place r.2 r.3) ∙ (sym c.parent.ensures ∙ c.in_ok-above.was) in
    let up = after_up n v (g.O.Values.values c.args.starts.now) r.0 r.1 c.in_ok-above.above r.2 r.4 eu in
    search rules

pub returns : goal.returns
returns g t c fs u h s e sorted low =
    let n = g.N.NodeStore.node in
    let v = g.N.NodeStore.table c.args.links.now in
    let start = start_in (g.O.Values.values c.args.starts.now) in
    let es = c.args.ends.now.cells.items in
    let eu = sym (subtree_parent n v fs u c.args.place h e) ∙ (sym c.parent.ensures ∙ c.in_ok-above.was) in
    let ends : number_at c.args.ends.now c.in_ok-above.above ≤ c.args.from = omega (arith, c.value-2.ensures, c.if-from-value.false) in
    after_on n v start es c.args.from c.args.to c.args.place c.in_ok-above.above c.args.turns c.right-right.result c.right-right.ensures c.first_overlap_after-2.result c.total.result c.total.ensures ends c.if-from-total.false c.first_overlap_after-2.ensures (sym c.is_at.ensures ∙ c.if-is_at.false) fs u eu h s e sorted low
