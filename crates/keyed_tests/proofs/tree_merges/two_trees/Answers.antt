use Rattle.keyed_tests.proofs.TwoTrees.{two_new}
use Rattle.ic_tree_merges.proofs.MergedTrees.{swapped}
use Rattle.keyed_tests.proofs.tree_merges.two_trees.Goals as goal

pub loop-index-init : goal.loop-index-init
loop-index-init g c = record { covers = c.requires.covers; two = two_new c.new-tree.ensures.empty c.new-other.ensures.empty }

pub loop-index-2-init : goal.loop-index-2-init
loop-index-2-init g c = record { covers = c.loop-index.invariant.covers; two = swapped c.loop-index.invariant.two }

pub returns : goal.returns
returns g c = record { two = swapped c.loop-index-2.invariant.two }
