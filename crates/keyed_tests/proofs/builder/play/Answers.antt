use Rattle.keyed_tests.proofs.Builders.{nothing_chained}
use Rattle.keyed_tests.proofs.builder.play.Goals as goal

pub loop-index-init : goal.loop-index-init
loop-index-init g c = record { covers = c.requires.covers; shown = nothing_chained g.L.RBTreeOps.node _ c.new-builder.ensures.empty }
