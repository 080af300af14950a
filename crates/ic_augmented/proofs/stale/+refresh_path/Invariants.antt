use Rattle.ic_augmented.proofs.stale.+refresh_path.Given as goal

abbrev pub decreases-refresh_path : goal.decreases-refresh_path
decreases-refresh_path g l = l.turns
