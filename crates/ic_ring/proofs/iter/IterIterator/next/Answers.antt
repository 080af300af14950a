use Rattle.std.proofs.Common.{Some, refl, sym, ◌∙◌}
use Rattle.ic_link_ops.proofs.DoublyLists.{neighbors_covered}
use Rattle.ic_ring.proofs.Circles.{tested_same, tested_other}
use Rattle.ic_ring.proofs.RingWalks.{Steps, steps_on, front_stands, none_left, gives, goes}
use Rattle.ic_ring.proofs.iter.IterIterator.next.Goals as goal
use Rattle.ic_ring.proofs.iter.IterIterator.next.Given.{Over}

pub next_of-self-requires : goal.next_of-self-requires
next_of-self-requires g c = front_stands _ _ _ c.args.self.now c.requires

-- a call of `next` is a step of the walk
step : (g : Over) (c : goal.After-self-1 g)
    → Steps g.L.LinkedListOps.neighbors g.L.LinkOps.table g.O.Values.values c.args.self.now (record c.args.self.now { front = c.next_of-self.result }) c.args.self.now.front
step g c = steps_on _ _ _ c.args.self.now c.next_of-self.result c.requires (tested_other _ _ (sym c.eq.ensures ∙ c.if-eq.false)) c.next_of-self.ensures

pub returns-then-eq-clause-steps : goal.returns-then-eq-clause-steps
returns-then-eq-clause-steps g c =
    let law = neighbors_covered g.L.LinkedListOps.neighbors g.L.LinkOps.table g.met.L.LinkOps.linked_is_covered g.met.L.LinkedListOps.linked_alike in
    let none = none_left _ _ g.O.Values.values law c.args.self.now c.requires (tested_same _ _ (sym c.eq.ensures ∙ c.if-eq.true)) in
    ((none, none), refl)

pub returns-clause-steps : goal.returns-clause-steps
returns-clause-steps g c =
    let law = neighbors_covered g.L.LinkedListOps.neighbors g.L.LinkOps.table g.met.L.LinkOps.linked_is_covered g.met.L.LinkedListOps.linked_alike in
    gives _ _ _ law (Some c.value-value.result) (step g c) (sym c.value-value.ensures)

pub returns-clause-goes : goal.returns-clause-goes
returns-clause-goes g c =
    let law = neighbors_covered g.L.LinkedListOps.neighbors g.L.LinkOps.table g.met.L.LinkOps.linked_is_covered g.met.L.LinkedListOps.linked_alike in
    goes _ _ _ law (Some c.value-value.result) (step g c) (sym c.value-value.ensures)
