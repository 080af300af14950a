use Rattle.ic_augmented.specs.Intervals.{start_in}
use Rattle.ic_augmented.proofs.OverlapLemmas.{first_is}
use Rattle.ic_augmented.proofs.overlaps.first_overlap.Goals as goal

pub returns : goal.returns
returns g c s h sorted =
    first_is (start_in (g.O.Values.values c.args.starts.now)) c.args.summed.now.summaries.cells.items c.args.from c.args.to g.N.NodeStore.node (g.N.NodeStore.table c.args.summed.now.links) s h sorted
    c.root.result c.first_overlap_below.result c.root.ensures c.first_overlap_below.ensures
