use Rattle.ic_augmented.proofs.exceeding.+first_greater_below.Given as goal

abbrev pub decreases-first_greater_below : goal.decreases-first_greater_below
decreases-first_greater_below g l = l.turns
