use Rattle.ic_hash_table.proofs.table.HashTable.entry.Goals as goal

pub returns-in-Some-clause-occupied : goal.returns-in-Some-clause-occupied
returns-in-Some-clause-occupied g c s held = rw c.new.ensures (rw c.in-Some.is at (c.search-at.ensures.found s held))

pub returns-in-Some-clause-can_remove : goal.returns-in-Some-clause-can_remove
returns-in-Some-clause-can_remove g c = (c.search-at.ensures.in_bounds, rw (c.of.ensures, c.new.ensures) (rw c.in-Some.is at c.search-at.ensures.member))

pub returns-in-None-clause-vacant : goal.returns-in-None-clause-vacant
returns-in-None-clause-vacant g c s held = rw c.in-None.is at (c.search-at.ensures.found s held)

pub returns-in-None-clause-belongs : goal.returns-in-None-clause-belongs
returns-in-None-clause-belongs g c = (c.search-at.ensures.in_bounds, c.search-at.ensures.slot)
