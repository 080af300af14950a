use Rattle.ic_rbtree.specs.Tree.{root_in}
use Rattle.ic_augmented.specs.Augmented.{links_of}
use Rattle.ic_augmented.proofs.FenceLemmas.{members_of}
use Rattle.ic_augmented.proofs.edits.unlink_fresh.Given as goal

abbrev pub ghosts-unlink_marking : goal.ghosts-unlink_marking
ghosts-unlink_marking g a = record { inside = members_of g.N.NodeStore.node (g.N.NodeStore.table (links_of a.summed.now)) (root_in g.E.TreeHead.kept a.tree.now) }
