use Rattle.ic_check.proofs.Subtrees.{none_represented, red_not_represented}
use Rattle.ic_check.proofs.tree.check_tree.Goals as goal

pub returns-in_default : goal.returns-in_default
returns-in_default g c = rw (← c.root.ensures) (none_represented c.in_default.ensures)

pub returns-in-Red : goal.returns-in-Red
returns-in-Red g c = rw (← c.root.ensures) (red_not_represented c.in-Some.ensures c.in-Red.is)
