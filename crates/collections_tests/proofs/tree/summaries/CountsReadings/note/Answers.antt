use Rattle.std.proofs.Common.{◌∙◌, sym}
use Rattle.ic_link_ops.specs.RedBlackTree.{Represents}
use Rattle.collections_tests.proofs.Ready.{stands_at}
use Rattle.collections_tests.proofs.tree.summaries.CountsReadings.note.Goals as goal

pub index_of-requires : goal.index_of-requires
index_of-requires g c =
    let q = c.requires.shown in
    (_, stands_at (Represents g.L.RBTreeOps.node (g.L.LinkOps.table c.args.summed.now.links) _) q.0 c.loop-position.position q.1.shows (sym c.in-Some.is ∙ c.nth-found.ensures q.0 q.1))
