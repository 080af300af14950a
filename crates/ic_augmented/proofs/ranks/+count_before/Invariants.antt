use Rattle.ic_augmented.proofs.ranks.+count_before.Given as goal

abbrev pub decreases-count_before : goal.decreases-count_before
decreases-count_before g l = l.turns
