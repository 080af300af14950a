use Rattle.ic_rbtree.proofs.vine.+tree_to_vine.Given as goal

abbrev pub decreases-tree_to_vine : goal.decreases-tree_to_vine
decreases-tree_to_vine g l = l.turns
