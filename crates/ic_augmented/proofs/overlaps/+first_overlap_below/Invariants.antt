use Rattle.ic_augmented.proofs.overlaps.+first_overlap_below.Given as goal

abbrev pub decreases-first_overlap_below : goal.decreases-first_overlap_below
decreases-first_overlap_below g l = l.turns
