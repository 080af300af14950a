use Rattle.std.proofs.Common.{sym, subst, append-nil, rules}
use Rattle.ic_link_ops.specs.Sequences.{at_back}
use Rattle.ic_link_ops.specs.declared.side.Side.TheVariants.{Right}
use Rattle.ic_rbtree.specs.Kept.{RepresentsKept}
use Rattle.ic_rbtree.proofs.KeptHeads.{shown, has_ends, end_is}
use Rattle.ic_rbtree.proofs.Neighbors.{insert_pos_after}
use Rattle.ic_rbtree.proofs.tree.RBTree.push_back.Goals as goal

pub last-last-requires : goal.last-last-requires
last-last-requires g c = record { shown = has_ends g.L.RBTreeOps.node (g.L.LinkOps.table c.args.links.now) (g.E.TreeHead.kept c.args.self.now.head) c.requires.shown.0 c.requires.shown.1 }

pub insert-requires-clause-insert_pos : goal.insert-requires-clause-insert_pos
insert-requires-clause-insert_pos g c =
    let n = g.L.RBTreeOps.node in
    let r = c.requires.shown in
    let k = g.E.TreeHead.kept c.args.self.now.head in (
      at_back r.0,
      subst (RepresentsKept g.E.TreeHead.kept n (g.L.LinkOps.table c.args.links.now) c.args.self.now.head) (sym (append-nil r.0)) r.1,
      insert_pos_after n (shown k r.1) (end_is g.L.RBTreeOps.node (g.L.LinkOps.table c.args.links.now) Right k r.0 c.last-last.ensures r.1),
    )

pub returns : goal.returns
returns g c = record {
  inserted = λ s h.
      let n = g.L.RBTreeOps.node in
      let k = g.E.TreeHead.kept c.args.self.now.head in
      rw c.place.ensures at c.if-not-insert.ensures.inserted (at_back s) (subst (RepresentsKept g.E.TreeHead.kept n (g.L.LinkOps.table c.args.links.now) c.args.self.now.head) (sym (append-nil s)) h)
      (insert_pos_after n (shown k h) (end_is g.L.RBTreeOps.node (g.L.LinkOps.table c.args.links.now) Right k s c.last-last.ensures h));
  acquired = search rules;
  adapter = search rules;
  refused = search rules;
  unchanged = search rules;
}
