use Rattle.std.proofs.Common.{◌≡◌}
use Rattle.ic_augmented.specs.Augmented.{links_of}
use Rattle.keyed_tests.specs.Ready.{IsReady}
use Rattle.keyed_tests.proofs.augmented.put_three.Given as goal

abbrev pub invariant-loop-index : goal.invariant-loop-index
invariant-loop-index g l = record {
  extent : (g.L.LinkOps.table (links_of l.summed)).extent ≡ (g.L.LinkOps.table (links_of l.fn.summed)).extent;
  ready : IsReady g.L.RBTreeOps.node g.L.LinkOps.table g.M.Summaries.summaries g.M.Summaries.Covers l.tree l.summed;
}
