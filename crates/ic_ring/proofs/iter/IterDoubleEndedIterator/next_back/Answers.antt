use Rattle.std.proofs.Common.{Some, refl, sym, ◌∙◌}
use Rattle.ic_link_ops.proofs.DoublyLists.{neighbors_covered}
use Rattle.ic_link_ops.proofs.PlacedEnds.{all_but_last}
use Rattle.ic_ring.proofs.Circles.{tested_same, tested_other}
use Rattle.ic_ring.proofs.RingWalks.{StepsBack, steps_back, none_left, gives_back, goes_back}
use Rattle.ic_ring.proofs.iter.IterDoubleEndedIterator.next_back.Goals as goal
use Rattle.ic_ring.proofs.iter.IterDoubleEndedIterator.next_back.Given.{Over}

-- a call of `next_back` is a step of the walk from the back
step : (g : Over) (c : goal.After-place-1 g)
    → StepsBack g.L.LinkedListOps.neighbors g.L.LinkOps.table g.O.Values.values c.args.self.now (record c.args.self.now { end = c.prev_of-place.result }) c.prev_of-place.result
step g c = steps_back _ _ _ c.args.self.now c.prev_of-place.result c.requires (tested_other _ _ (sym c.eq.ensures ∙ c.if-eq.false)) c.prev_of-place.ensures

pub value-value-requires : goal.value-value-requires
value-value-requires g c =
    let k = steps_back g.L.LinkedListOps.neighbors g.L.LinkOps.table g.O.Values.values c.args.self.now c.prev_of-place.result c.requires
    (tested_other _ _ (sym c.eq.ensures ∙ c.if-eq.false)) c.prev_of-place.ensures in
    record { placed = (all_but_last _ k.members _ k.placed).1 }

pub returns-then-eq-clause-steps : goal.returns-then-eq-clause-steps
returns-then-eq-clause-steps g c =
    let law = neighbors_covered g.L.LinkedListOps.neighbors g.L.LinkOps.table g.met.L.LinkOps.linked_is_covered g.met.L.LinkedListOps.linked_alike in
    let none = none_left _ _ g.O.Values.values law c.args.self.now c.requires (tested_same _ _ (sym c.eq.ensures ∙ c.if-eq.true)) in
    ((none, none), refl)

pub returns-clause-steps : goal.returns-clause-steps
returns-clause-steps g c =
    let law = neighbors_covered g.L.LinkedListOps.neighbors g.L.LinkOps.table g.met.L.LinkOps.linked_is_covered g.met.L.LinkedListOps.linked_alike in
    gives_back _ _ _ law (Some c.value-value.result) (step g c) (sym c.value-value.ensures)

pub returns-clause-goes : goal.returns-clause-goes
returns-clause-goes g c =
    let law = neighbors_covered g.L.LinkedListOps.neighbors g.L.LinkOps.table g.met.L.LinkOps.linked_is_covered g.met.L.LinkedListOps.linked_alike in
    goes_back _ _ _ law (Some c.value-value.result) (step g c) (sym c.value-value.ensures)
