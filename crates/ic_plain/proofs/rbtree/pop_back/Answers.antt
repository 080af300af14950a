use Rattle.std.proofs.Common.{Some, [], sym, ap, ◌∙◌, subst, append-nil, rules}
use Rattle.ic_link_ops.specs.Sequences.{but_last}
use Rattle.ic_link_ops.proofs.SequenceLemmas.{but_last_of_none, split_last}
use Rattle.ic_link_ops.specs.RedBlackTree.{Represents}
use Rattle.ic_rbtree.specs.Tree.{root_of}
use Rattle.ic_plain.proofs.KeyOrder.{last_member}
use Rattle.ic_plain.proofs.rbtree.pop_back.Goals as goal

pub returns-in_err-last : goal.returns-in_err-last
returns-in_err-last g c = record {
  answer = search rules;
  shown = λ s shown.
      subst (Represents g.L.RBTreeOps.node (g.L.LinkOps.table c.args.links.now) (root_of c.args.tree.now)) (sym (but_last_of_none s (sym (c.in_err-last.ensures.last s shown)))) shown;
  shows = search rules;
  sorted = search rules;
  unlinked = search rules;
  empty = search rules;
  adapter = search rules;
  frame = search rules;
}

pub remove-requires : goal.remove-requires
remove-requires g c =
    let s = c.requires.shown in record { member = rw c.new-object.ensures (last_member s.0 s.1 (c.in_ok-last.ensures.last s.0 s.1)) }

pub returns : goal.returns
returns g c = record {
  answer = λ s shown. ap Some c.new-object.ensures ∙ c.in_ok-last.ensures.last s shown;
  shown = λ s shown.
      subst (Represents g.L.RBTreeOps.node (g.L.LinkOps.table c.remove.new.links) (root_of c.remove.new.tree)) (append-nil (but_last s))
      (c.remove.ensures.shown (but_last s) [] (subst (Represents g.L.RBTreeOps.node (g.L.LinkOps.table c.args.links.now) (root_of c.args.tree.now)) (split_last s (sym (ap Some c.new-object.ensures ∙ c.in_ok-last.ensures.last s shown))) shown));
  shows = search rules;
  sorted = search rules;
  unlinked = search rules;
  empty = search rules;
  adapter = search rules;
  frame = search rules;
}
