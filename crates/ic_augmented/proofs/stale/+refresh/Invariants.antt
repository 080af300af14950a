use Rattle.std.proofs.Common.{◌+◌, ◌*◌}
use Rattle.ic_augmented.proofs.stale.+refresh.Given as goal

abbrev pub decreases-refresh_below : goal.decreases-refresh_below
decreases-refresh_below g l = 3 * l.turns + 1

abbrev pub decreases-refresh_at : goal.decreases-refresh_at
decreases-refresh_at g l = 3 * l.turns

abbrev pub decreases-recompute : goal.decreases-recompute
decreases-recompute g l = 3 * l.turns + 2
