use Rattle.ic_rbtree.proofs.vine.+vine_to_tree.Given as goal

abbrev pub decreases-vine_to_tree : goal.decreases-vine_to_tree
decreases-vine_to_tree g l = l.count
