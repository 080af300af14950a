use Rattle.std.proofs.Common.{rules, Some, ◌∙◌, subst}
use Rattle.ic_rbtree.specs.Closed.{IsNode, IsNamed}
use Rattle.ic_link_ops.proofs.SequenceLemmas.{some_same}
use Rattle.ic_rbtree.proofs.Vines.{root_linked, low_right, low_left, right_part, left_part, next_named, laid_out}
use Rattle.ic_rbtree.proofs.vine.+tree_to_vine.Goals as goal

pub tree_to_vine-next-requires : goal.tree_to_vine-next-requires
tree_to_vine-next-requires g t c κs within =
    let n = g.N.NodeStore.node in
    let r = c.requires.tree in
    let part = right_part n r.2 c.in-Some.is c.right-right.ensures in
    let low = low_right n r.2 c.in-Some.is r.3 in
    search rules

pub set_right-requires : goal.set_right-requires
set_right-requires g t c =
    let n = g.N.NodeStore.node in
    let r = c.requires.tree in
    let part = right_part n r.2 c.in-Some.is c.right-right.ensures in
    let laid = c.tree_to_vine-next.ensures.laid _ _ part (low_right n r.2 c.in-Some.is r.3) in
    let same = g.met.N.NodeStore.keeps_links_keeps _ _ c.tree_to_vine-next.ensures.keeps_links in
    record {
      linked = same c.in-Some.place ∙ root_linked n r.2 c.in-Some.is;
      named = next_named n r.2 c.in-Some.is laid (λ q e. same q ∙ c.requires.named q e);
    }

pub tree_to_vine-requires : goal.tree_to_vine-requires
tree_to_vine-requires g t c κs within =
    let n = g.N.NodeStore.node in
    let r = c.requires.tree in
    let part = right_part n r.2 c.in-Some.is c.right-right.ensures in
    let laid = c.tree_to_vine-next.ensures.laid _ _ part (low_right n r.2 c.in-Some.is r.3) in
    let rest = left_part n r.2 c.in-Some.is laid c.set_right.ensures.set c.set_right.ensures.frame c.left-left.ensures in
    let low = low_left n r.2 c.in-Some.is r.3 in
    let same = g.met.N.NodeStore.keeps_links_keeps _ _ (g.met.N.NodeStore.keeps_links_on _ _ _ c.tree_to_vine-next.ensures.keeps_links c.set_right.ensures.keeps_links) in
    let named : IsNamed n (g.N.NodeStore.table c.set_right.new.self) (Some c.in-Some.place) = λ q e. same q ∙ subst (λ z. IsNode n (g.N.NodeStore.table c.args.links.now) z) (some_same e) (root_linked n r.2 c.in-Some.is) in
    search rules

pub returns-clause-laid : goal.returns-clause-laid
returns-clause-laid g t c up u x low =
    let n = g.N.NodeStore.node in
    let part = right_part n x c.in-Some.is c.right-right.ensures in
    let laid = c.tree_to_vine-next.ensures.laid _ _ part (low_right n x c.in-Some.is low) in
    laid_out n x c.in-Some.is laid c.set_right.ensures.set c.set_right.ensures.frame
    (c.tree_to_vine.ensures.laid _ _ (left_part n x c.in-Some.is laid c.set_right.ensures.set c.set_right.ensures.frame c.left-left.ensures) (low_left n x c.in-Some.is low))
