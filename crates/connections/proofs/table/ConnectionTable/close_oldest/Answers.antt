use Rattle.connections.proofs.Ages.{aged_popped}
use Rattle.connections.proofs.table.ConnectionTable.close_oldest.Goals as goal

pub invariant_of-self : goal.invariant_of-self
invariant_of-self g c = aged_popped c.self.inside.clock c.self.inside.live c.pop_last.new.self c.pop_last.result c.pop_last.ensures c.self.invariant
