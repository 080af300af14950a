use Rattle.std.proofs.Common.{rules}
use Rattle.ic_rbtree.proofs.Sending.{upper_same, upper_stands}
use Rattle.ic_rbtree.proofs.tree.RBTree.upper_bound_owning.Goals as goal

pub returns : goal.returns
returns g c = record {
  tree = search rules;
  border = λ s h. upper_same (c.probe_in_bound.ensures.order (g.O.Values.values c.args.objects.now)) c.new.ensures.position (c.upper-current.ensures.border s h);
  stands = let r = c.requires.placed in rw c.new.ensures.list (upper_stands r.shown c.new.ensures.position (c.upper-current.ensures.border r.members r.shown));
}
