use Rattle.ic_rbtree.specs.Tree.{root_in}
use Rattle.ic_augmented.specs.Augmented.{links_of}
use Rattle.ic_augmented.proofs.FenceLemmas.{fence_of}
use Rattle.ic_augmented.proofs.edits.attach_fresh.Given as goal

abbrev pub ghosts-attach_marking : goal.ghosts-attach_marking
ghosts-attach_marking g a = record { inside = fence_of g.N.NodeStore.node (g.N.NodeStore.table (links_of a.summed.now)) (root_in g.E.TreeHead.kept a.tree.now) a.place }
