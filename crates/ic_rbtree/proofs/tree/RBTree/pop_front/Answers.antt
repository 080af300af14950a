use Rattle.std.proofs.Common.{[], drop, sym, ◌∙◌, subst, rules}
use Rattle.ic_link_ops.specs.declared.side.Side.TheVariants.{Left}
use Rattle.ic_link_ops.proofs.SequenceLemmas.{first_is, nothing_first}
use Rattle.ic_rbtree.specs.Kept.{RepresentsKept}
use Rattle.ic_rbtree.proofs.KeptHeads.{has_ends, end_is, object_there}
use Rattle.ic_rbtree.proofs.tree.RBTree.pop_front.Goals as goal

pub first-requires : goal.first-requires
first-requires g c = record { shown = has_ends g.L.RBTreeOps.node (g.L.LinkOps.table c.args.links.now) (g.E.TreeHead.kept c.args.self.now.head) c.requires.shown.0 c.requires.shown.1 }

pub remove-requires : goal.remove-requires
remove-requires g c =
    let r = c.requires.shown in
    let is = (object_there g.L.RBTreeOps.node (g.L.LinkOps.table c.args.links.now) Left (g.E.TreeHead.kept c.args.self.now.head) r.0 c.first.ensures r.1 c.in_ok-first.was c.new-object.ensures) in
    record { member = record { front = []; back = drop 1 r.0; shown = subst (RepresentsKept g.E.TreeHead.kept g.L.RBTreeOps.node (g.L.LinkOps.table c.args.links.now) c.args.self.now.head) (first_is r.0 is) r.1 } }

pub returns : goal.returns
returns g c = record {
  answer = λ s h. object_there g.L.RBTreeOps.node (g.L.LinkOps.table c.args.links.now) Left (g.E.TreeHead.kept c.args.self.now.head) s c.first.ensures h c.in_ok-first.was c.new-object.ensures;
  removed = λ s h.
      c.remove.ensures.removed [] (drop 1 s)
      (subst (RepresentsKept g.E.TreeHead.kept g.L.RBTreeOps.node (g.L.LinkOps.table c.args.links.now) c.args.self.now.head) (first_is s (object_there g.L.RBTreeOps.node (g.L.LinkOps.table c.args.links.now) Left (g.E.TreeHead.kept c.args.self.now.head) s c.first.ensures h c.in_ok-first.was c.new-object.ensures)) h);
  released = search rules;
  empty = search rules;
  adapter = search rules;
  frame = search rules;
}

pub returns-in_err-first : goal.returns-in_err-first
returns-in_err-first g c = record {
  answer = λ s h. c.from_residual.ensures ∙ (sym c.in_err-first.was ∙ end_is g.L.RBTreeOps.node (g.L.LinkOps.table c.args.links.now) Left (g.E.TreeHead.kept c.args.self.now.head) s c.first.ensures h);
  removed = λ s h.
      let none = nothing_first s (sym c.in_err-first.was ∙ end_is g.L.RBTreeOps.node (g.L.LinkOps.table c.args.links.now) Left (g.E.TreeHead.kept c.args.self.now.head) s c.first.ensures h) in
      subst (λ z. RepresentsKept g.E.TreeHead.kept g.L.RBTreeOps.node (g.L.LinkOps.table c.args.links.now) c.args.self.now.head (drop 1 z)) (sym none)
      (subst (RepresentsKept g.E.TreeHead.kept g.L.RBTreeOps.node (g.L.LinkOps.table c.args.links.now) c.args.self.now.head) none h);
  released = search rules;
  empty = search rules;
  adapter = search rules;
  frame = search rules;
}
