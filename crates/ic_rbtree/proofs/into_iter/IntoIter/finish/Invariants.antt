use Rattle.std.proofs.Common.{List, length}
use Rattle.ic_link_ops.specs.Prelude.{Place, releases_each, RepresentsEnds}
use Rattle.ic_rbtree.specs.Members.{members_around}
use Rattle.ic_rbtree.proofs.RemainingMembers.{Finishes}
use Rattle.ic_rbtree.proofs.into_iter.IntoIter.finish.Given as goal

abbrev pub invariant-loop : goal.invariant-loop
invariant-loop g l =
    let n = g.L.RBTreeOps.node in
    let table = g.L.LinkOps.table in
    (w : List Place) → RepresentsEnds n (table l.fn.self.links.now) l.fn.self.front l.fn.self.back w
    → (k : Finishes n (table l.fn.self.links.now) (table l.links) l.front l.back w) × g.L.LinkOps.Trace l.fn.self.links.now l.links (releases_each k.done)

abbrev pub decreases-loop : goal.decreases-loop
decreases-loop g l = length (members_around g.L.RBTreeOps.node (g.L.LinkOps.table l.links) l.front)
