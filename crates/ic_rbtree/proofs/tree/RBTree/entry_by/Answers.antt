use Rattle.std.proofs.Common.{refl, sym, ◌∙◌}
use Rattle.ic_rbtree.proofs.KeptHeads.{shown, placed_root}
use Rattle.ic_rbtree.proofs.Sending.{ends_at_root, found_stands, occupies, vacant_for}
use Rattle.ic_rbtree.proofs.tree.RBTree.entry_by.Goals as goal

pub descend-descent-requires-clause-placed : goal.descend-descent-requires-clause-placed
descend-descent-requires-clause-placed g c = rw c.root-root.ensures (placed_root (g.E.TreeHead.kept c.args.self.now.head) c.requires.placed)

pub returns-then-is_equal-clause-occupied : goal.returns-then-is_equal-clause-occupied
returns-then-is_equal-clause-occupied g c s k =
    let n = g.L.RBTreeOps.node in
    let h = shown (g.E.TreeHead.kept c.args.self.now.head) k in
    occupies n h (ends_at_root n c.root-root.ensures c.descend-descent.ensures.ends h) (sym c.is_equal.ensures ∙ c.if-is_equal.true) (c.new.ensures.position ∙ c.of-current.ensures ∙ c.get.ensures)

pub returns-then-is_equal-clause-stands : goal.returns-then-is_equal-clause-stands
returns-then-is_equal-clause-stands g c = let r = c.requires.placed in rw (c.new.ensures.borrows.2, c.new.ensures.borrows.3) (found_stands r.shown refl (returns-then-is_equal-clause-occupied g c r.members r.shown).0)

pub returns-then-is_equal-clause-looks : goal.returns-then-is_equal-clause-looks
returns-then-is_equal-clause-looks g c s k = c.descend-descent.ensures.looks s (rw c.root-root.ensures (shown (g.E.TreeHead.kept c.args.self.now.head) k))

pub returns-clause-vacant : goal.returns-clause-vacant
returns-clause-vacant g c s k =
    let n = g.L.RBTreeOps.node in
    let h = shown (g.E.TreeHead.kept c.args.self.now.head) k in
    vacant_for n h (ends_at_root n c.root-root.ensures c.descend-descent.ensures.ends h) (sym c.is_equal.ensures ∙ c.if-is_equal.false) _ (c.of-parent.ensures ∙ c.get-2.ensures) refl

pub returns-clause-looks : goal.returns-clause-looks
returns-clause-looks g c s k = c.descend-descent.ensures.looks s (rw c.root-root.ensures (shown (g.E.TreeHead.kept c.args.self.now.head) k))
