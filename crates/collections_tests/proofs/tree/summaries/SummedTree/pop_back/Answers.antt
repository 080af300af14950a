use Rattle.collections_tests.proofs.Ready.{last_popped}
use Rattle.collections_tests.proofs.tree.summaries.SummedTree.pop_back.Goals as goal

pub pop_back-requires : goal.pop_back-requires
pop_back-requires g c = let q = c.self.invariant.ready in record { shown = (q.members, q.shown) }

pub invariant_of-self : goal.invariant_of-self
invariant_of-self g c =
    let q = c.self.invariant.ready in
    let e = c.pop_back.ensures in
    record { placed = c.self.invariant.placed; ready = last_popped g.L.LinkOps.Trace g.E.TreeHead.kept q c.pop_back.result e.released e.empty (e.frame q.members q.shown).extent (e.removed q.members q.shown) }
