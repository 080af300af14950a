use Rattle.std.proofs.Common.{ap}
use Rattle.ic_container.specs.Orders.{Order}
use Rattle.ic_container.proofs.ListedLemmas.{listed_grown, order_grown}
use Rattle.ic_indexed.proofs.indexed.Indexed.reserve.Goals as goal

pub invariant_of-self : goal.invariant_of-self
invariant_of-self g c =
    let k = c.self.invariant in
    let keeps = c.cover.ensures.keeps in
    record {
      keyed = g.met.I.Index.has_grown c.self.inside.index c.self.inside.pool.links.0 c.cover.new.self.0 c.self.inside.pool.objects keeps.0 k.keyed;
      listed = listed_grown k.listed c.cover.new.self.1 keeps.1;
    }

pub returns : goal.returns
returns g c = rw (← c.self.view_is) (ap (λ (o : Order g.row.T.Denot). record { order = o.order; values = o.values; parts = g.I.Index.parts c.self.inside.index }) (order_grown c.self.invariant.listed c.cover.new.self.1 c.cover.ensures.keeps.1))
