use Rattle.std.proofs.Common.{refl, rules}
use Rattle.ic_rbtree.proofs.Sending.{upper_same}
use Rattle.ic_rbtree.proofs.tree.RBTree.upper_bound.Goals as goal

pub returns : goal.returns
returns g c = record {
  tree = search rules;
  links = search rules;
  border = λ s h. upper_same (c.probe_in_bound.ensures.order (g.O.Values.values c.args.objects.now)) refl (c.upper_bound_by.ensures.border s h);
  stands = search rules;
}
