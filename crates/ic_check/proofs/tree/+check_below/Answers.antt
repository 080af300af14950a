use Rattle.std.proofs.Common.{rules, sym, ◌∙◌, arith, Some}
use Rattle.ic_check.specs.Subtrees.{HasPathUp}
use Rattle.ic_check.proofs.Subtrees.{stands_there, stands_not, path_through, none_left, none_right, few_members, few_blacks, tree_at, told}
use Rattle.ic_check.proofs.tree.+check_below.Goals as goal

pub returns-then-not-are_apart : goal.returns-then-not-are_apart
returns-then-not-are_apart g t c =
    rw c.in-Some.is (stands_not g.L.RBTreeOps.node (g.L.LinkOps.table c.args.links.now).entry (λ s.
    let apart = c.are_apart.ensures.1 (λ q e f. s.apart q (sym c.left-left.ensures ∙ e) (sym c.right-right.ensures ∙ f)) in cc apart))

pub check_below-requires : goal.check_below-requires
check_below-requires g t c κs within =
    let path : HasPathUp g.L.RBTreeOps.node (g.L.LinkOps.table c.args.links.now).entry (Some c.in-Some.place) =
    path_through g.L.RBTreeOps.node (g.L.LinkOps.table c.args.links.now).entry (sym c.parent.ensures ∙ c.is_same.ensures.0 c.if-not-is_same.false) c.requires.path in
    search rules

pub returns-in_default-check_below : goal.returns-in_default-check_below
returns-in_default-check_below g t c =
    rw c.in-Some.is (none_left g.L.RBTreeOps.node (g.L.LinkOps.table c.args.links.now).entry (omega arith) c.left-left.ensures c.in_default-check_below.ensures)

pub check_below-requires-2 : goal.check_below-requires-2
check_below-requires-2 g t c κs within =
    let path : HasPathUp g.L.RBTreeOps.node (g.L.LinkOps.table c.args.links.now).entry (Some c.in-Some.place) =
    path_through g.L.RBTreeOps.node (g.L.LinkOps.table c.args.links.now).entry (sym c.parent.ensures ∙ c.is_same.ensures.0 c.if-not-is_same.false) c.requires.path in
    search rules

pub returns-in_default-check_below-2 : goal.returns-in_default-check_below-2
returns-in_default-check_below-2 g t c =
    rw c.in-Some.is (none_right g.L.RBTreeOps.node (g.L.LinkOps.table c.args.links.now).entry (omega arith) c.right-right.ensures c.in_default-check_below-2.ensures)

pub join-requires-clause-few : goal.join-requires-clause-few
join-requires-clause-few g t c =
    let n = g.L.RBTreeOps.node in
    let entry = (g.L.LinkOps.table c.args.links.now).entry in
    few_members n entry
    (tree_at n entry c.left-left.ensures c.in-Some-check_below.ensures)
    (tree_at n entry c.right-right.ensures c.in-Some-check_below-2.ensures)
    c.requires.path
    (stands_there n entry (g.met.L.RBTreeOps.linked_alike _ ∙ (sym c.tells_linked.ensures ∙ c.if-not-tells_linked.false))
    (sym c.parent.ensures ∙ c.is_same.ensures.0 c.if-not-is_same.false) c.left-left.ensures c.right-right.ensures (c.are_apart.ensures.0 c.if-not-are_apart.false))

pub join-requires-clause-low : goal.join-requires-clause-low
join-requires-clause-low g t c =
    let few = few_blacks g.L.RBTreeOps.node (g.L.LinkOps.table c.args.links.now).entry c.in-Some-check_below.ensures in
    omega (arith, few, c.if-levels-eq0.false, c.ranges.levels.fits)

pub returns : goal.returns
returns g t c =
    let n = g.L.RBTreeOps.node in
    let entry = (g.L.LinkOps.table c.args.links.now).entry in
    rw c.in-Some.is (told n entry
    (tree_at n entry c.left-left.ensures c.in-Some-check_below.ensures)
    (tree_at n entry c.right-right.ensures c.in-Some-check_below-2.ensures)
    c.requires.path
    (stands_there n entry (g.met.L.RBTreeOps.linked_alike _ ∙ (sym c.tells_linked.ensures ∙ c.if-not-tells_linked.false))
    (sym c.parent.ensures ∙ c.is_same.ensures.0 c.if-not-is_same.false) c.left-left.ensures c.right-right.ensures (c.are_apart.ensures.0 c.if-not-are_apart.false))
    (omega (arith, c.if-levels-eq0.false)) c.color.ensures c.join.result c.join.ensures)
