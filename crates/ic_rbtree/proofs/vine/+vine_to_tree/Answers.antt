use Rattle.std.proofs.Common.{rules, ◌≤◌, refl, sym, ◌∙◌, subst, arith}
use Rattle.ic_rbtree.specs.Closed.{IsNode}
use Rattle.ic_link_ops.proofs.SequenceLemmas.{none_not, some_same}
use Rattle.ic_rbtree.proofs.Vines.{halves, front_half, back_half, place_linked, both_named, hung_below, none_left}
use Rattle.ic_rbtree.proofs.vine.+vine_to_tree.Goals as goal

pub returns-then-count-eq0-clause-grown : goal.returns-then-count-eq0-clause-grown
returns-then-count-eq0-clause-grown g t c s after x = none_left g.N.NodeStore.node x c.if-count-eq0.true

pub vine_to_tree-left-requires : goal.vine_to_tree-left-requires
vine_to_tree-left-requires g t c κs within =
    let n = g.N.NodeStore.node in
    let x = c.requires.2 in
    let some : 1 ≤ c.args.count = omega (arith, c.if-count-eq0.false) in
    let front = front_half n x some refl c.saturating_sub-lower.ensures in
    search rules

pub returns-in_default-clause-grown : goal.returns-in_default-clause-grown
returns-in_default-clause-grown g t c s after x =
    let n = g.N.NodeStore.node in
    let some : 1 ≤ c.args.count = omega (arith, c.if-count-eq0.false) in
    let low = c.saturating_sub-lower.ensures in
    let grown = c.vine_to_tree-left.ensures.grown _ _ (front_half n x some refl low) in
    absurd (none_not (halves n x some refl low).1 (sym c.in_default.is ∙ grown.next_is))

pub right-next-requires : goal.right-next-requires
right-next-requires g t c =
    let n = g.N.NodeStore.node in
    let x = c.requires.2 in
    let some : 1 ≤ c.args.count = omega (arith, c.if-count-eq0.false) in
    let low = c.saturating_sub-lower.ensures in
    record { linked = place_linked n x some refl low (c.vine_to_tree-left.ensures.grown _ _ (front_half n x some refl low)) c.in-Some.is }

pub vine_to_tree-right-requires : goal.vine_to_tree-right-requires
vine_to_tree-right-requires g t c κs within =
    let n = g.N.NodeStore.node in
    let x = c.requires.2 in
    let some : 1 ≤ c.args.count = omega (arith, c.if-count-eq0.false) in
    let low = c.saturating_sub-lower.ensures in
    let back = back_half n x some refl low (c.vine_to_tree-left.ensures.grown _ _ (front_half n x some refl low)) c.in-Some.is c.right-next.ensures in
    search rules

pub set_node-requires : goal.set_node-requires
set_node-requires g t c =
    let n = g.N.NodeStore.node in
    let x = c.requires.2 in
    let some : 1 ≤ c.args.count = omega (arith, c.if-count-eq0.false) in
    let low = c.saturating_sub-lower.ensures in
    let front = c.vine_to_tree-left.ensures.grown _ _ (front_half n x some refl low) in
    let named = both_named n x some refl low front c.in-Some.is (c.vine_to_tree-right.ensures.grown _ _ (back_half n x some refl low front c.in-Some.is c.right-next.ensures)) in
    record { linked = named.0; left = named.1; right = named.2; parent = λ q e. absurd (none_not q e) }

pub adopt-requires : goal.adopt-requires
adopt-requires g t c =
    let n = g.N.NodeStore.node in
    let x = c.requires.2 in
    let some : 1 ≤ c.args.count = omega (arith, c.if-count-eq0.false) in
    let low = c.saturating_sub-lower.ensures in
    let front = c.vine_to_tree-left.ensures.grown _ _ (front_half n x some refl low) in
    let named = both_named n x some refl low front c.in-Some.is (c.vine_to_tree-right.ensures.grown _ _ (back_half n x some refl low front c.in-Some.is c.right-next.ensures)) in
    let same = g.met.N.NodeStore.keeps_links_keeps _ _ c.set_node.ensures.keeps_links in
    record {
      child = λ q e. same q ∙ named.1 q e;
      parent = λ q e. same q ∙ subst (λ z. IsNode n (g.N.NodeStore.table c.vine_to_tree-right.new.links) z) (some_same e) named.0;
    }

pub adopt-requires-2 : goal.adopt-requires-2
adopt-requires-2 g t c =
    let n = g.N.NodeStore.node in
    let x = c.requires.2 in
    let some : 1 ≤ c.args.count = omega (arith, c.if-count-eq0.false) in
    let low = c.saturating_sub-lower.ensures in
    let front = c.vine_to_tree-left.ensures.grown _ _ (front_half n x some refl low) in
    let named = both_named n x some refl low front c.in-Some.is (c.vine_to_tree-right.ensures.grown _ _ (back_half n x some refl low front c.in-Some.is c.right-next.ensures)) in
    let same = g.met.N.NodeStore.keeps_links_keeps _ _ (g.met.N.NodeStore.keeps_links_on _ _ _ c.set_node.ensures.keeps_links c.adopt.ensures.keeps_links) in
    record {
      child = λ q e. same q ∙ named.2 q e;
      parent = λ q e. same q ∙ subst (λ z. IsNode n (g.N.NodeStore.table c.vine_to_tree-right.new.links) z) (some_same e) named.0;
    }

pub returns-clause-grown : goal.returns-clause-grown
returns-clause-grown g t c s after x =
    let n = g.N.NodeStore.node in
    let some : 1 ≤ c.args.count = omega (arith, c.if-count-eq0.false) in
    let low = c.saturating_sub-lower.ensures in
    let front = c.vine_to_tree-left.ensures.grown _ _ (front_half n x some refl low) in
    hung_below n x some refl low front c.in-Some.is (c.vine_to_tree-right.ensures.grown _ _ (back_half n x some refl low front c.in-Some.is c.right-next.ensures))
    c.color_at.ensures c.set_node.ensures.set c.set_node.ensures.frame c.adopt.ensures.moved c.adopt-2.ensures.moved
