use Rattle.ic_container.proofs.ListedEnds.{listed_after, order_after}
use Rattle.ic_container.proofs.ListedLemmas.{listed_grown, listed_off, order_grown}
use Rattle.ic_container.proofs.listed.Listed.place_back.Goals as goal

pub invariant_of-self : goal.invariant_of-self
invariant_of-self g c = let e = c.in-Err.ensures in rw e.refused.1 (listed_grown c.self.invariant c.place.new.self.links e.keeps)

pub returns-in-Err-clause-refused : goal.returns-in-Err-clause-refused
returns-in-Err-clause-refused g c = let e = c.in-Err.ensures in rw (← c.self.view_is, e.refused.1) (e.refused.0, order_grown c.self.invariant c.place.new.self.links e.keeps)

pub push_back-requires-clause-unlinked : goal.push_back-requires-clause-unlinked
push_back-requires-clause-unlinked g c = let e = c.in-Ok.ensures in rw c.place-2.ensures (listed_off c.self.invariant c.place.new.self.links e.keeps e.placed)

pub push_back-requires-clause-shown : goal.push_back-requires-clause-shown
push_back-requires-clause-shown g c = (_, (listed_grown c.self.invariant c.place.new.self.links c.in-Ok.ensures.keeps).holds.shown 0)

pub invariant_of-self-2 : goal.invariant_of-self-2
invariant_of-self-2 g c =
    let e = c.in-Ok.ensures in
    listed_after c.self.invariant c.place.new.self.links e.keeps e.placed c.push_back.new.links c.push_back.new.list (rw c.place-2.ensures at c.push_back.ensures)

pub returns-clause-back : goal.returns-clause-back
returns-clause-back g c =
    let e = c.in-Ok.ensures in
    rw (← c.self.view_is) (order_after c.self.invariant c.place.new.self.links e.keeps e.placed c.push_back.new.links c.push_back.new.list (rw c.place-2.ensures at c.push_back.ensures))
