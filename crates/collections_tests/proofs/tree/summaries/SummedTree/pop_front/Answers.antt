use Rattle.collections_tests.proofs.Ready.{first_popped}
use Rattle.collections_tests.proofs.tree.summaries.SummedTree.pop_front.Goals as goal

pub pop_front-requires : goal.pop_front-requires
pop_front-requires g c = let q = c.self.invariant.ready in record { shown = (q.members, q.shown) }

pub invariant_of-self : goal.invariant_of-self
invariant_of-self g c =
    let q = c.self.invariant.ready in
    let e = c.pop_front.ensures in
    record { placed = c.self.invariant.placed; ready = first_popped g.L.LinkOps.Trace g.E.TreeHead.kept q c.pop_front.result e.released e.empty (e.frame q.members q.shown).extent (e.removed q.members q.shown) }
