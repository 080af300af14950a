use Rattle.std.proofs.Common.{◌≡◌}
use Rattle.ic_augmented.specs.Augmented.{links_of}
use Rattle.keyed_tests.specs.Ready.{AreIntervals}
use Rattle.keyed_tests.proofs.augmented.intervals.play.Given as goal

abbrev pub invariant-loop-index : goal.invariant-loop-index
invariant-loop-index g l = record {
  covers : (g.L.LinkOps.table (links_of l.summed)).extent.places ≡ 100;
  intervals : AreIntervals g.L.RBTreeOps.node g.L.LinkOps.table g.L.Values.values l.tree l.summed;
}

abbrev pub invariant-loop-2 : goal.invariant-loop-2
invariant-loop-2 g l = record {
  covers : (g.L.LinkOps.table (links_of l.summed)).extent.places ≡ 100;
  intervals : AreIntervals g.L.RBTreeOps.node g.L.LinkOps.table g.L.Values.values l.tree l.summed;
}

abbrev pub invariant-loop-3 : goal.invariant-loop-3
invariant-loop-3 g l = record {
  covers : (g.L.LinkOps.table (links_of l.summed)).extent.places ≡ 100;
  intervals : AreIntervals g.L.RBTreeOps.node g.L.LinkOps.table g.L.Values.values l.tree l.summed;
}

abbrev pub invariant-loop : goal.invariant-loop
invariant-loop g l = record {
  covers : (g.L.LinkOps.table (links_of l.summed)).extent.places ≡ 100;
  intervals : AreIntervals g.L.RBTreeOps.node g.L.LinkOps.table g.L.Values.values l.tree l.summed;
}
