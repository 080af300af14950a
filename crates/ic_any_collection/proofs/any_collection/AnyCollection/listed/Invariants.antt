use Rattle.ic_any_collection.proofs.Common.{length, table_in, members_in, Walks, from}
use Rattle.ic_any_collection.proofs.any_collection.AnyCollection.listed.Given as goal

-- the places that were listed up to now are the members before `current`
abbrev pub invariant-loop-current : goal.invariant-loop-current
invariant-loop-current g l = record { walks : Walks (members_in (table_in l.fn.links) l.fn.self) l.places.items l.prev l.current }

abbrev pub decreases-loop-current : goal.decreases-loop-current
decreases-loop-current g l = length (from l.current (members_in (table_in l.fn.links) l.fn.self))
