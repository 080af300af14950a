use Rattle.std.proofs.Common.{Some}
use Rattle.ic_augmented.proofs.SubtreeLemmas.{above_end}
use Rattle.ic_augmented.proofs.climb.+climb.Given as goal

abbrev pub decreases-climb : goal.decreases-climb
decreases-climb g l = above_end g.N.NodeStore.node (g.N.NodeStore.table l.links.now) 68 (Some l.place)
