use Rattle.std.proofs.Common.{Some}
use Rattle.ic_augmented.proofs.SubtreeLemmas.{above_end}
use Rattle.ic_augmented.proofs.climb.+pass_on.Given as goal

abbrev pub decreases-pass_on : goal.decreases-pass_on
decreases-pass_on g l = above_end g.N.NodeStore.node (g.N.NodeStore.table l.links.now) 68 (Some l.place)
