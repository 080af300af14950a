use Rattle.ic_augmented.proofs.ranks.+nth_below.Given as goal

abbrev pub decreases-nth_below : goal.decreases-nth_below
decreases-nth_below g l = l.turns
