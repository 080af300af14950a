use Rattle.collections_tests.proofs.Trees.{none_represented}
use Rattle.collections_tests.proofs.tree.trees.filled.Goals.{then-index-covers, else-index-covers}
use Rattle.collections_tests.proofs.tree.trees.filled.Goals as goal

pub loop-index-init : goal.loop-index-init
loop-index-init c = record { shown = none_represented c.args.links.now c.default-tree.result.head c.default-tree.ensures.0 }

pub loop-index-preserved : goal.loop-index-preserved
loop-index-preserved c =
    elim c.if-index-covers.branch [
      | then-index-covers w ↦ record { shown = rw (w.tree-is, w.links-is) w.put.ensures.shown }
      | else-index-covers w ↦ record { shown = rw (w.tree-is, w.links-is) c.loop-index.invariant.shown }
    ]
