use Rattle.ic_hash_table.specs.HashTable.{number, Holds}
use Rattle.ic_hash_table.specs.Retained.{passing}
use Rattle.ic_hash_table.proofs.Callers.{held_represented, new_held, removed_some}
use Rattle.ic_link_ops.proofs.Calling.{either}
use Rattle.keyed_tests.proofs.Extents.{places_of}
use Rattle.keyed_tests.proofs.HashTables.{taken_either, told_either, unique_either}
use Rattle.keyed_tests.proofs.hash_table.steps.take_step.Goals as goal

pub returns-in-Insert-clause-covers : goal.returns-in-Insert-clause-covers
returns-in-Insert-clause-covers g c = let q = c.requires.held in places_of (c.insert.ensures.kept.chains.frame q.0 (held_represented q.1)).extent c.requires.covers

pub returns-in-Insert-clause-held : goal.returns-in-Insert-clause-held
returns-in-Insert-clause-held g c =
    let e = c.insert.ensures in
    let q = c.requires.held in
    either _ c.insert.result (e.inserted q.0 q.1) e.refused e.unchanged (λ also. (_, also.2)) (λ refused same. (q.0, rw (g.met.L.LinkOps.refused_keeps _ _ _ refused, same) q.1))

pub returns-in-InsertUnique-clause-covers : goal.returns-in-InsertUnique-clause-covers
returns-in-InsertUnique-clause-covers g c = let q = c.requires.held in places_of (c.insert_unique-found.ensures.kept.chains.frame q.0 (held_represented q.1)).extent c.requires.covers

pub returns-in-InsertUnique-clause-held : goal.returns-in-InsertUnique-clause-held
returns-in-InsertUnique-clause-held g c =
    let e = c.insert_unique-found.ensures in
    let q = c.requires.held in
    unique_either _ c.insert_unique-found.result e.same (e.inserted q.0 q.1) e.refused (λ also. (_, also.2)) (λ same. (q.0, rw (same.0, same.1) q.1))
    (λ refused same. (q.0, rw (g.met.L.LinkOps.refused_keeps _ _ _ refused, same) q.1))

pub returns-in-Remove-clause-covers : goal.returns-in-Remove-clause-covers
returns-in-Remove-clause-covers g c = let q = c.requires.held in places_of (c.remove.ensures.kept.chains.frame q.0 (held_represented q.1)).extent c.requires.covers

pub returns-in-Remove-clause-held : goal.returns-in-Remove-clause-held
returns-in-Remove-clause-held g c =
    let e = c.remove.ensures in
    let q = c.requires.held in
    removed_some (Holds g.L.SinglyLinkedListOps.successor (number g.A.HashAdapter.key_of g.A.HashAdapter.hash_of) g.B.BucketRow.fronts (g.L.LinkOps.table c.args.links.now) c.args.table.now c.args.objects.now) (Holds g.L.SinglyLinkedListOps.successor (number g.A.HashAdapter.key_of g.A.HashAdapter.hash_of) g.B.BucketRow.fronts (g.L.LinkOps.table c.remove.new.links) c.remove.new.self c.args.objects.now) c.remove.result q.0 q.1 (e.answer q.0 q.1) e.removed e.nothing (λ same. rw (same.0, same.1) q.1)

pub returns-in-RemoveBy-clause-covers : goal.returns-in-RemoveBy-clause-covers
returns-in-RemoveBy-clause-covers g c = let q = c.requires.held in places_of (c.remove_by.ensures.kept.chains.frame q.0 (held_represented q.1)).extent c.requires.covers

pub returns-in-RemoveBy-clause-held : goal.returns-in-RemoveBy-clause-held
returns-in-RemoveBy-clause-held g c =
    let e = c.remove_by.ensures in
    let q = c.requires.held in
    taken_either (Holds g.L.SinglyLinkedListOps.successor (number g.A.HashAdapter.key_of g.A.HashAdapter.hash_of) g.B.BucketRow.fronts (g.L.LinkOps.table c.args.links.now) c.args.table.now c.args.objects.now) (Holds g.L.SinglyLinkedListOps.successor (number g.A.HashAdapter.key_of g.A.HashAdapter.hash_of) g.B.BucketRow.fronts (g.L.LinkOps.table c.remove_by.new.links) c.remove_by.new.self c.args.objects.now) _ c.remove_by.result q.0 q.1 (e.found q.0 q.1) e.removed e.nothing (λ same. rw (same.0, same.1) q.1)

pub returns-in-KeepSmall-clause-covers : goal.returns-in-KeepSmall-clause-covers
returns-in-KeepSmall-clause-covers g c = let q = c.requires.held in places_of (c.retain.ensures.kept.chains.frame q.0 (held_represented q.1)).extent c.requires.covers

pub returns-in-KeepSmall-clause-held : goal.returns-in-KeepSmall-clause-held
returns-in-KeepSmall-clause-held g c =
    let q = c.requires.held in
    let k = c.retain.ensures.asked q.0 q.1 in (passing k.0 q.0, k.3)

pub returns-in-Grow-clause-covers : goal.returns-in-Grow-clause-covers
returns-in-Grow-clause-covers g c = let q = c.requires.held in places_of (c.grow_one.ensures.kept.frame q.0 (held_represented q.1)).extent c.requires.covers

pub returns-in-Grow-clause-held : goal.returns-in-Grow-clause-held
returns-in-Grow-clause-held g c =
    let e = c.grow_one.ensures in
    let q = c.requires.held in
    told_either c.grow_one.result (e.holds q.0 q.1) e.full (λ k. (k.members, k.holds)) (λ same. (q.0, rw (same.0, same.1) q.1))

pub shrink_one-requires : goal.shrink_one-requires
shrink_one-requires g c = let q = c.requires.held in record { shown = (q.0, held_represented q.1) }

pub returns-in-Shrink-clause-covers : goal.returns-in-Shrink-clause-covers
returns-in-Shrink-clause-covers g c = let q = c.requires.held in places_of (c.shrink_one.ensures.kept.frame q.0 (held_represented q.1)).extent c.requires.covers

pub returns-in-Shrink-clause-held : goal.returns-in-Shrink-clause-held
returns-in-Shrink-clause-held g c =
    let e = c.shrink_one.ensures in
    let q = c.requires.held in
    told_either c.shrink_one.result (e.holds c.args.objects.now q.0 q.1) e.last (λ k. (k.members, k.holds)) (λ same. (q.0, rw (same.0, same.1) q.1))

pub clear-requires : goal.clear-requires
clear-requires g c = let q = c.requires.held in record { shown = (q.0, held_represented q.1) }

pub returns-in-Clear-clause-covers : goal.returns-in-Clear-clause-covers
returns-in-Clear-clause-covers g c = let q = c.requires.held in places_of (c.clear.ensures.kept.chains.frame q.0 (held_represented q.1)).extent c.requires.covers

pub returns-in-Clear-clause-held : goal.returns-in-Clear-clause-held
returns-in-Clear-clause-held g c = new_held g.L.SinglyLinkedListOps.successor (number g.A.HashAdapter.key_of g.A.HashAdapter.hash_of) g.B.BucketRow.fronts (g.L.LinkOps.table c.clear.new.links) c.clear.new.self c.args.objects.now c.clear.ensures.empty
