use Rattle.ic_raw_trees.proofs.Checks.{found}
use Rattle.ic_raw_trees.proofs.shown.is_tree.Goals as goal

pub returns : goal.returns
returns c = found c.check_tree.result c.is_some.result c.is_some.ensures c.check_tree.ensures
