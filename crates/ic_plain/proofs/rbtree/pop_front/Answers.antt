use Rattle.std.proofs.Common.{Some, [], drop, ap, ◌∙◌, subst, rules}
use Rattle.ic_link_ops.proofs.SequenceLemmas.{first_is}
use Rattle.ic_link_ops.specs.RedBlackTree.{Represents}
use Rattle.ic_rbtree.specs.Tree.{root_of}
use Rattle.ic_plain.proofs.KeyOrder.{first_member}
use Rattle.ic_plain.proofs.rbtree.pop_front.Goals as goal

pub remove-requires : goal.remove-requires
remove-requires g c =
    let s = c.requires.shown in record { member = rw c.new-object.ensures (first_member s.0 s.1 (c.in_ok-first.ensures.first s.0 s.1)) }

pub returns : goal.returns
returns g c = record {
  answer = λ s shown. ap Some c.new-object.ensures ∙ c.in_ok-first.ensures.first s shown;
  shown = λ s shown.
      c.remove.ensures.shown [] (drop 1 s) (subst (Represents g.L.RBTreeOps.node (g.L.LinkOps.table c.args.links.now) (root_of c.args.tree.now)) (first_is s (ap Some c.new-object.ensures ∙ c.in_ok-first.ensures.first s shown)) shown);
  shows = search rules;
  sorted = search rules;
  unlinked = search rules;
  empty = search rules;
  adapter = search rules;
  frame = search rules;
}
