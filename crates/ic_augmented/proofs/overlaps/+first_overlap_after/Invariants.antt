use Rattle.ic_augmented.proofs.overlaps.+first_overlap_after.Given as goal

abbrev pub decreases-first_overlap_after : goal.decreases-first_overlap_after
decreases-first_overlap_after g l = l.turns
