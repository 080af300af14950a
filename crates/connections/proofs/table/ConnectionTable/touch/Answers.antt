use Rattle.std.proofs.Common.{not, arith}
use Rattle.ic_keyed.specs.Keyed.{has_key}
use Rattle.connections.specs.declared.connection.Connection.{Connection}
use Rattle.connections.proofs.Ages.{aged_filter}
use Rattle.connections.proofs.table.ConnectionTable.touch.Goals as goal

pub invariant_of-self-2 : goal.invariant_of-self-2
invariant_of-self-2 g c =
    rw c.in-Ok.ensures.replaced.1 (omega arith, aged_filter c.self.inside.clock (λ d. not (has_key (λ (c : Connection). c.id) c.args.id d)) c.self.inside.live.values c.self.invariant)
