use Rattle.std.proofs.Common.{ap}
use Rattle.ic_indexed.specs.Indexed.{IndexedOrder}
use Rattle.ic_keyed.specs.Kept.{keyed_of}
use Rattle.ic_keyed.proofs.keyed.Keyed.reserve.Goals as goal

pub invariant_of-self : goal.invariant_of-self
invariant_of-self g c = rw c.reserve.ensures c.self.invariant

pub returns : goal.returns
returns g c = rw (← c.self.view_is) (ap (λ (store : IndexedOrder g.row.T.Denot). keyed_of store) c.reserve.ensures)
