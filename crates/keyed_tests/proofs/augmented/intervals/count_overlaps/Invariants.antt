use Rattle.std.proofs.Common.{◌-◌, List}
use Rattle.ic_unsafe_ref.specs.declared.place.Place.{Place}
use Rattle.ic_rbtree.specs.Tree.{root_of}
use Rattle.ic_augmented.specs.Prelude.{RepresentsAugmented, greatest, number_at, start_in, overlaps, links_of, summaries_of}
use Rattle.keyed_tests.proofs.Intervals.{IsCounted}
use Rattle.keyed_tests.proofs.augmented.intervals.count_overlaps.Given as goal

abbrev pub invariant-loop-at : goal.invariant-loop-at
invariant-loop-at g l = record {
  counted : (s : List Place) → RepresentsAugmented g.L.RBTreeOps.node (greatest (summaries_of l.summed)) (g.L.LinkOps.table (links_of l.summed)) (root_of l.tree) s
      → IsCounted (overlaps (start_in (g.L.Values.values (links_of l.summed))) (number_at (summaries_of l.summed)) l.from l.to) s l.count l.at;
}

abbrev pub decreases-loop-at : goal.decreases-loop-at
decreases-loop-at g l = 8589934591 - l.count
