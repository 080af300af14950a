use Rattle.ic_link_ops.proofs.Calling.{either}
use Rattle.ic_hash_table.specs.HashTable.{number, Holds}
use Rattle.ic_hash_table.proofs.Callers.{held_represented, removed_some}
use Rattle.keyed_tests.proofs.Extents.{places_of}
use Rattle.keyed_tests.proofs.HashTables.{taken_either}
use Rattle.keyed_tests.proofs.hash_table.keyed.take_step.Goals as goal

pub insert_keyed-requires-clause-placed : goal.insert_keyed-requires-clause-placed
insert_keyed-requires-clause-placed g c = g.met.L.LinkValues.covered_has_value c.args.links.now c.eighth.result (rw c.requires.covers c.eighth.ensures)

pub returns-in-Insert-clause-covers : goal.returns-in-Insert-clause-covers
returns-in-Insert-clause-covers g c = let q = c.requires.held in places_of (c.insert_keyed.ensures.kept.chains.frame q.0 (held_represented q.1)).extent c.requires.covers

pub returns-in-Insert-clause-held : goal.returns-in-Insert-clause-held
returns-in-Insert-clause-held g c =
    let e = c.insert_keyed.ensures in
    let q = c.requires.held in
    rw e.values
    (either _ c.insert_keyed.result (e.inserted q.0 q.1) e.refused e.unchanged (λ also. (_, also.2)) (λ refused same. (q.0, rw (g.met.L.LinkOps.refused_keeps _ _ _ refused, same) q.1)))

pub remove_keyed-requires-clause-placed : goal.remove_keyed-requires-clause-placed
remove_keyed-requires-clause-placed g c = g.met.L.LinkValues.covered_has_value c.args.links.now c.eighth-in-Remove.result (rw c.requires.covers c.eighth-in-Remove.ensures)

pub returns-in-Remove-clause-covers : goal.returns-in-Remove-clause-covers
returns-in-Remove-clause-covers g c = let q = c.requires.held in places_of (c.remove_keyed.ensures.kept.chains.frame q.0 (held_represented q.1)).extent c.requires.covers

pub returns-in-Remove-clause-held : goal.returns-in-Remove-clause-held
returns-in-Remove-clause-held g c =
    let e = c.remove_keyed.ensures in
    let q = c.requires.held in
    rw e.values
    (removed_some (Holds g.L.SinglyLinkedListOps.successor (number g.A.HashAdapter.key_of g.A.HashAdapter.hash_of) g.B.BucketRow.fronts (g.L.LinkOps.table c.args.links.now) c.args.table.now (g.L.Values.values c.args.links.now))
    (Holds g.L.SinglyLinkedListOps.successor (number g.A.HashAdapter.key_of g.A.HashAdapter.hash_of) g.B.BucketRow.fronts (g.L.LinkOps.table c.remove_keyed.new.links) c.remove_keyed.new.self (g.L.Values.values c.args.links.now))
    c.remove_keyed.result q.0 q.1 (e.answer q.0 q.1) e.removed e.nothing (λ same. rw (same.0, same.1) q.1))

pub returns-in-RemoveBy-clause-covers : goal.returns-in-RemoveBy-clause-covers
returns-in-RemoveBy-clause-covers g c = let q = c.requires.held in places_of (c.remove_by_keyed.ensures.kept.chains.frame q.0 (held_represented q.1)).extent c.requires.covers

pub returns-in-RemoveBy-clause-held : goal.returns-in-RemoveBy-clause-held
returns-in-RemoveBy-clause-held g c =
    let e = c.remove_by_keyed.ensures in
    let q = c.requires.held in
    rw e.values
    (taken_either (Holds g.L.SinglyLinkedListOps.successor (number g.A.HashAdapter.key_of g.A.HashAdapter.hash_of) g.B.BucketRow.fronts (g.L.LinkOps.table c.args.links.now) c.args.table.now (g.L.Values.values c.args.links.now))
    (Holds g.L.SinglyLinkedListOps.successor (number g.A.HashAdapter.key_of g.A.HashAdapter.hash_of) g.B.BucketRow.fronts (g.L.LinkOps.table c.remove_by_keyed.new.links) c.remove_by_keyed.new.self (g.L.Values.values c.args.links.now))
    _ c.remove_by_keyed.result q.0 q.1 (e.found q.0 q.1) e.removed e.nothing (λ same. rw (same.0, same.1) q.1))
