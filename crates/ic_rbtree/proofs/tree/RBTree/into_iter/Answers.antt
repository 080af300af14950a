use Rattle.std.proofs.Common.{◌∙◌}
use Rattle.ic_link_ops.specs.declared.side.Side.TheVariants.{Left, Right}
use Rattle.ic_rbtree.proofs.KeptHeads.{shown, has_ends, end_is}
use Rattle.ic_rbtree.proofs.tree.RBTree.into_iter.Goals as goal

pub first-front-requires : goal.first-front-requires
first-front-requires g c = record { shown = has_ends g.L.RBTreeOps.node (g.L.LinkOps.table c.args.links.now) (g.E.TreeHead.kept c.args.self.head) c.requires.shown.0 c.requires.shown.1 }

pub last-back-requires : goal.last-back-requires
last-back-requires g c = record { shown = has_ends g.L.RBTreeOps.node (g.L.LinkOps.table c.args.links.now) (g.E.TreeHead.kept c.args.self.head) c.requires.shown.0 c.requires.shown.1 }

pub returns-clause-tree : goal.returns-clause-tree
returns-clause-tree g c s h =
    let n = g.L.RBTreeOps.node in
    let v = g.L.LinkOps.table c.args.links.now in
    let k = g.E.TreeHead.kept c.args.self.head in
    let x = shown k h in
    record { tree = x.tree; held = x.held; starts = c.of.ensures ∙ end_is n v Left k s c.first-front.ensures h; ends = c.of-2.ensures ∙ end_is n v Right k s c.last-back.ensures h }
