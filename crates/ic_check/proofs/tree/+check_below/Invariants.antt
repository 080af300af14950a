use Rattle.ic_check.proofs.tree.+check_below.Given as goal

abbrev pub decreases-check_below : goal.decreases-check_below
decreases-check_below g l = l.levels
