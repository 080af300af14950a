use Rattle.std.proofs.Common.{[], sym, ◌∙◌, subst, append-nil, rules}
use Rattle.ic_link_ops.specs.Sequences.{but_last}
use Rattle.ic_link_ops.specs.declared.side.Side.TheVariants.{Right}
use Rattle.ic_link_ops.proofs.SequenceLemmas.{split_last, but_last_of_none}
use Rattle.ic_rbtree.specs.Kept.{RepresentsKept}
use Rattle.ic_rbtree.proofs.KeptHeads.{has_ends, end_is, object_there}
use Rattle.ic_rbtree.proofs.tree.RBTree.pop_back.Goals as goal

pub last-requires : goal.last-requires
last-requires g c = record { shown = has_ends g.L.RBTreeOps.node (g.L.LinkOps.table c.args.links.now) (g.E.TreeHead.kept c.args.self.now.head) c.requires.shown.0 c.requires.shown.1 }

pub remove-requires : goal.remove-requires
remove-requires g c =
    let r = c.requires.shown in
    record {
      member = record {
        front = but_last r.0;
        back = [];
        shown = subst (RepresentsKept g.E.TreeHead.kept g.L.RBTreeOps.node (g.L.LinkOps.table c.args.links.now) c.args.self.now.head) (split_last r.0 (sym (object_there g.L.RBTreeOps.node (g.L.LinkOps.table c.args.links.now) Right (g.E.TreeHead.kept c.args.self.now.head) r.0 c.last.ensures r.1 c.in_ok-last.was c.new-object.ensures))) r.1;
      };
    }

pub returns : goal.returns
returns g c = record {
  answer = λ s h. object_there g.L.RBTreeOps.node (g.L.LinkOps.table c.args.links.now) Right (g.E.TreeHead.kept c.args.self.now.head) s c.last.ensures h c.in_ok-last.was c.new-object.ensures;
  removed = λ s h.
      subst (λ z. RepresentsKept g.E.TreeHead.kept g.L.RBTreeOps.node (g.L.LinkOps.table c.remove.new.links) c.remove.new.self.head z) (append-nil (but_last s))
      (c.remove.ensures.removed (but_last s) []
      (subst (RepresentsKept g.E.TreeHead.kept g.L.RBTreeOps.node (g.L.LinkOps.table c.args.links.now) c.args.self.now.head) (split_last s (sym (object_there g.L.RBTreeOps.node (g.L.LinkOps.table c.args.links.now) Right (g.E.TreeHead.kept c.args.self.now.head) s c.last.ensures h c.in_ok-last.was c.new-object.ensures))) h));
  released = search rules;
  empty = search rules;
  adapter = search rules;
  frame = search rules;
}

pub returns-in_err-last : goal.returns-in_err-last
returns-in_err-last g c = record {
  answer = λ s h. c.from_residual.ensures ∙ (sym c.in_err-last.was ∙ end_is g.L.RBTreeOps.node (g.L.LinkOps.table c.args.links.now) Right (g.E.TreeHead.kept c.args.self.now.head) s c.last.ensures h);
  removed = λ s h.
      let is = sym (end_is g.L.RBTreeOps.node (g.L.LinkOps.table c.args.links.now) Right (g.E.TreeHead.kept c.args.self.now.head) s c.last.ensures h) ∙ c.in_err-last.was in
      subst (RepresentsKept g.E.TreeHead.kept g.L.RBTreeOps.node (g.L.LinkOps.table c.args.links.now) c.args.self.now.head) (sym (but_last_of_none s is)) h;
  released = search rules;
  empty = search rules;
  adapter = search rules;
  frame = search rules;
}
