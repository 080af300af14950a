use Rattle.std.proofs.Common.{rules}
use Rattle.ic_rbtree.proofs.Sending.{lower_same, lower_stands}
use Rattle.ic_rbtree.proofs.tree.RBTree.lower_bound_mut.Goals as goal

pub returns : goal.returns
returns g c = record {
  borrows = search rules;
  border = λ s h. lower_same (c.probe_in_bound.ensures.order (g.O.Values.values c.args.objects.now)) c.new.ensures.position (c.lower-current.ensures.border s h);
  stands = let r = c.requires.placed in rw (c.new.ensures.borrows.2, c.new.ensures.borrows.3) (lower_stands r.shown c.new.ensures.position (c.lower-current.ensures.border r.members r.shown));
}
