use Rattle.std.proofs.Common.{Some, ap, ◌∙◌}
use Rattle.ic_link_ops.proofs.Positions.{stands_on}
use Rattle.ic_rbtree.proofs.tree.RBTree.cursor_owning_from_ptr.Goals as goal

pub returns-clause-stands : goal.returns-clause-stands
returns-clause-stands g c = rw (c.new.ensures.list) (stands_on c.requires.member (c.new.ensures.position ∙ c.of.ensures ∙ ap (λ p. Some p) c.place.ensures))
