use Rattle.std.proofs.Common.{arith}
use Rattle.connections.proofs.Ages.{aged_later}
use Rattle.connections.proofs.table.ConnectionTable.advance_to.Goals as goal

pub invariant_of-self : goal.invariant_of-self
invariant_of-self g c = aged_later c.self.inside.live.values (omega (arith, c.if-self-time.true)) c.self.invariant
