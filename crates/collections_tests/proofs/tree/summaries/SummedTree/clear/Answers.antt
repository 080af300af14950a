use Rattle.collections_tests.proofs.Ready.{none_ready}
use Rattle.collections_tests.proofs.tree.summaries.SummedTree.clear.Goals as goal

pub clear-requires : goal.clear-requires
clear-requires g c = let q = c.self.invariant.ready in record { shown = (q.members, q.shown) }

pub invariant_of-self : goal.invariant_of-self
invariant_of-self g c =
    let q = c.self.invariant.ready in
    let e = c.clear.ensures in
    record { placed = c.self.invariant.placed; ready = none_ready g.E.TreeHead.kept q (e.released q.members q.shown) (e.frame q.members q.shown).extent e.empty }
