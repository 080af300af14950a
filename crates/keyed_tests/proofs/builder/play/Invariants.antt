use Rattle.std.proofs.Common.{◌≡◌}
use Rattle.ic_rbtree.specs.Builder.{ends_of}
use Rattle.ic_rbtree.specs.Vines.{RepresentsVineSome}
use Rattle.keyed_tests.proofs.builder.play.Given as goal

abbrev pub invariant-loop-index : goal.invariant-loop-index
invariant-loop-index g l = record {
  covers : (g.L.LinkOps.table l.links).extent.places ≡ 4;
  shown : RepresentsVineSome g.L.RBTreeOps.node (g.L.LinkOps.table l.links) (ends_of l.builder);
}
