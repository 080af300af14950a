use Rattle.std.proofs.Common.{refl, rules}
use Rattle.ic_rbtree.proofs.Sending.{lower_same, lower_stands}
use Rattle.ic_rbtree.proofs.tree.RBTree.lower_bound_by.Goals as goal

pub returns : goal.returns
returns g c = record {
  tree = search rules;
  links = search rules;
  border = λ s h. lower_same refl c.new.ensures.position (c.lower.ensures.border s h);
  stands = let r = c.requires.placed in rw (c.new.ensures.list, c.new.ensures.links) (lower_stands r.shown c.new.ensures.position (c.lower.ensures.border r.members r.shown));
  looks = search rules;
}
