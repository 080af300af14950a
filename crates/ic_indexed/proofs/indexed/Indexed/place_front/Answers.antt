use Rattle.std.proofs.Common.{ap}
use Rattle.ic_container.specs.Orders.{Order}
use Rattle.ic_container.proofs.ListedLemmas.{listed_grown, listed_new, listed_off, listed_values_new, order_grown}
use Rattle.ic_indexed.proofs.indexed.Indexed.place_front.Goals as goal

pub place-requires : goal.place-requires
place-requires g c = record { all = c.self.invariant.keyed }

-- in this case `place` was refused and stored no object, so the invariant holds as before
pub invariant_of-self : goal.invariant_of-self
invariant_of-self g c =
    let e = c.in-Err.ensures in record { keyed = e.all; listed = rw e.refused.1 (listed_grown c.self.invariant.listed c.place.new.pool.links.1 e.keeps) }

pub returns-in-Err-clause-refused : goal.returns-in-Err-clause-refused
returns-in-Err-clause-refused g c =
    let e = c.in-Err.ensures in
    rw (← c.self.view_is, e.refused.1, e.parts)
    (e.refused.0, ap (λ (o : Order g.row.T.Denot). record { order = o.order; values = o.values; parts = g.I.Index.parts c.self.inside.index }) (order_grown c.self.invariant.listed c.place.new.pool.links.1 e.keeps))

-- in this case `place` has stored a new object. The list's table does not link it yet, so it can be inserted into the list
pub push_front-requires-clause-unlinked : goal.push_front-requires-clause-unlinked
push_front-requires-clause-unlinked g c = let e = c.in-Ok.ensures in rw c.place-2.ensures (listed_off c.self.invariant.listed c.place.new.pool.links.1 e.keeps e.placed)

pub push_front-requires-clause-shown : goal.push_front-requires-clause-shown
push_front-requires-clause-shown g c = (_, (listed_grown c.self.invariant.listed c.place.new.pool.links.1 c.in-Ok.ensures.keeps).holds.shown 0)

pub invariant_of-self-2 : goal.invariant_of-self-2
invariant_of-self-2 g c =
    let e = c.in-Ok.ensures in
    record {
      keyed = e.all;
      listed = listed_new c.self.invariant.listed c.place.new.pool.links.1 e.keeps e.placed c.push_front.new.links c.push_front.new.list (rw c.place-2.ensures at c.push_front.ensures);
    }

pub returns-clause-added : goal.returns-clause-added
returns-clause-added g c =
    let e = c.in-Ok.ensures in
    rw (← c.self.view_is) (listed_values_new c.self.invariant.listed c.place.new.pool.links.1 e.keeps e.placed c.push_front.new.links c.push_front.new.list (rw c.place-2.ensures at c.push_front.ensures))
