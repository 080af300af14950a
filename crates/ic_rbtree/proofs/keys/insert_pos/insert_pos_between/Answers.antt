use Rattle.std.proofs.Common.{sym, ◌∙◌}
use Rattle.ic_rbtree.proofs.Neighbors.{insert_pos_of_front}
use Rattle.ic_rbtree.proofs.keys.insert_pos.insert_pos_between.Goals as goal

pub returns-in-None : goal.returns-in-None
returns-in-None g c root gap shown front_is back_is = (sym c.left.ensures ∙ c.in-None.is, back_is)

pub returns-in-Some : goal.returns-in-Some
returns-in-Some g c root gap shown front_is back_is = insert_pos_of_front g.L.RBTreeOps.node gap shown front_is back_is (sym c.left.ensures ∙ c.in-Some.is)
