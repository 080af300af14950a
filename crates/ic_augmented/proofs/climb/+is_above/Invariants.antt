use Rattle.std.proofs.Common.{Some}
use Rattle.ic_augmented.proofs.SubtreeLemmas.{above_end}
use Rattle.ic_augmented.proofs.climb.+is_above.Given as goal

abbrev pub decreases-is_above : goal.decreases-is_above
decreases-is_above g l = above_end g.N.NodeStore.node (g.N.NodeStore.table l.links.now) 68 (Some l.place)
