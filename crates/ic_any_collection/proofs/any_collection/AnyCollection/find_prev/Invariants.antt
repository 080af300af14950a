use Rattle.ic_any_collection.proofs.Common.{List, length, Place, IsAbsent, table_in, members_in, Walks, from}
use Rattle.ic_any_collection.proofs.any_collection.AnyCollection.find_prev.Given as goal

-- the walk has passed the members before `current`, and the searched place is none of them
abbrev pub invariant-loop-current : goal.invariant-loop-current
invariant-loop-current g l = record { sought : (done : List Place) × Walks (members_in (table_in l.fn.links) l.fn.self) done l.prev l.current × IsAbsent l.fn.place done }

abbrev pub decreases-loop-current : goal.decreases-loop-current
decreases-loop-current g l = length (from l.current (members_in (table_in l.fn.links) l.fn.self))
