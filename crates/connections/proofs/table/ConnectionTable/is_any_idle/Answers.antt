use Rattle.connections.proofs.Ages.{idle_or_active, oldest_last}
use Rattle.connections.proofs.table.ConnectionTable.is_any_idle.Goals as goal

pub overflow_sub-result : goal.overflow_sub-result
overflow_sub-result g c = (oldest_last c.in-Some.ensures c.self.invariant).0

pub returns-in-Some : goal.returns-in-Some
returns-in-Some g c = rw (← c.self.view_is) (idle_or_active c.args.limit (record { live = c.self.inside.live.values; clock = c.self.inside.clock }) c.self.invariant c.in-Some.ensures)
