use Rattle.std.proofs.Common.{None, cond, sym, ap, ◌∙◌}
use Rattle.ic_rbtree.proofs.KeptHeads.{shown, placed_root}
use Rattle.ic_rbtree.proofs.Sending.{ends_at_root, finds}
use Rattle.ic_rbtree.proofs.tree.RBTree.first_equal.Goals as goal

pub descend-descent-requires-clause-placed : goal.descend-descent-requires-clause-placed
descend-descent-requires-clause-placed g c = rw c.root-root.ensures (placed_root (g.E.TreeHead.kept c.args.self.now.head) c.requires.placed)

pub returns-then-not-is_equal-clause-found : goal.returns-then-not-is_equal-clause-found
returns-then-not-is_equal-clause-found g c s k =
    let n = g.L.RBTreeOps.node in
    let d = c.descend-descent.result in
    let h = shown (g.E.TreeHead.kept c.args.self.now.head) k in
    finds n h (ends_at_root n c.root-root.ensures c.descend-descent.ensures.ends h) (c.of.ensures ∙ ap (λ x. cond x d.back None) (sym c.if-not-is_equal.true ∙ c.is_equal.ensures))

pub returns-clause-found : goal.returns-clause-found
returns-clause-found g c s k =
    let n = g.L.RBTreeOps.node in
    let d = c.descend-descent.result in
    let h = shown (g.E.TreeHead.kept c.args.self.now.head) k in
    finds n h (ends_at_root n c.root-root.ensures c.descend-descent.ensures.ends h) (ap (λ x. cond x d.back None) (sym c.if-not-is_equal.false ∙ c.is_equal.ensures))

pub returns-then-not-is_equal-clause-looks : goal.returns-then-not-is_equal-clause-looks
returns-then-not-is_equal-clause-looks g c s k = c.descend-descent.ensures.looks s (rw c.root-root.ensures (shown (g.E.TreeHead.kept c.args.self.now.head) k))

pub returns-clause-looks : goal.returns-clause-looks
returns-clause-looks g c s k = c.descend-descent.ensures.looks s (rw c.root-root.ensures (shown (g.E.TreeHead.kept c.args.self.now.head) k))
