use Rattle.std.proofs.Common.{◌∙◌, sym}
use Rattle.ic_rbtree.proofs.Rotations.{end_is, end_not}
use Rattle.ic_rbtree.proofs.readings.side_of.Goals as goal

pub returns-then-is_at : goal.returns-then-is_at
returns-then-is_at g c = sym c.left.ensures ∙ end_is _ _ _ c.is_at.ensures c.if-is_at.true

pub returns-else-is_at : goal.returns-else-is_at
returns-else-is_at g c e = end_not _ _ _ c.is_at.ensures c.if-is_at.false (c.left.ensures ∙ e)
