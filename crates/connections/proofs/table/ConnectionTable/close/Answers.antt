use Rattle.std.proofs.Common.{not}
use Rattle.ic_keyed.specs.Keyed.{has_key}
use Rattle.connections.specs.declared.connection.Connection.{Connection}
use Rattle.connections.proofs.Ages.{aged_filter}
use Rattle.connections.proofs.table.ConnectionTable.close.Goals as goal

pub invariant_of-self : goal.invariant_of-self
invariant_of-self g c = rw c.remove.ensures.removed (aged_filter c.self.inside.clock (λ d. not (has_key (λ (c : Connection). c.id) c.args.id d)) c.self.inside.live.values c.self.invariant)
