use Rattle.std.proofs.Common.{List, sym, subst}
use Rattle.ic_unsafe_ref.specs.declared.place.Place.{Place}
use Rattle.ic_link_ops.proofs.Calling.{either}
use Rattle.ic_hash_table.specs.Prelude.{number, Holds, AreSideBySide, same_key}
use Rattle.ic_hash_table.proofs.Callers.{held_represented}
use Rattle.ic_hash_table.proofs.SideBySideLemmas.{keys_alike}
use Rattle.keyed_tests.proofs.Extents.{places_of}
use Rattle.keyed_tests.proofs.HashTables.{removed_beside}
use Rattle.keyed_tests.proofs.hash_table.equals.take_step.Goals as goal

pub insert_equal-requires-clause-held : goal.insert_equal-requires-clause-held
insert_equal-requires-clause-held g c = (c.requires.beside.0, c.requires.beside.1)

pub returns-in-Insert-clause-covers : goal.returns-in-Insert-clause-covers
returns-in-Insert-clause-covers g c = let q = c.requires.beside in places_of (c.insert_equal.ensures.kept.chains.frame q.0 (held_represented q.1)).extent c.requires.covers

pub returns-in-Insert-clause-beside : goal.returns-in-Insert-clause-beside
returns-in-Insert-clause-beside g c =
    let e = c.insert_equal.ensures in
    either _ c.insert_equal.result (e.beside c.requires.beside) e.refused e.unchanged (λ k. k) (λ refused same. rw (g.met.L.LinkOps.refused_keeps _ _ _ refused, same) c.requires.beside)

pub remove-requires-clause-held : goal.remove-requires-clause-held
remove-requires-clause-held g c = (c.requires.beside.0, c.requires.beside.1)

pub returns-in-Remove-clause-covers : goal.returns-in-Remove-clause-covers
returns-in-Remove-clause-covers g c = let q = c.requires.beside in places_of (c.remove.ensures.kept.chains.frame q.0 (held_represented q.1)).extent c.requires.covers

pub returns-in-Remove-clause-beside : goal.returns-in-Remove-clause-beside
returns-in-Remove-clause-beside g c =
    let e = c.remove.ensures in
    let q = c.requires.beside in
    let hash = number g.A.HashAdapter.key_of g.A.HashAdapter.hash_of in
    let key_of = g.A.HashAdapter.key_of c.args.table.now.adapter in
    subst (λ a. (u : List Place) × Holds g.L.SinglyLinkedListOps.successor hash g.B.BucketRow.fronts (g.L.LinkOps.table c.remove.new.links) c.remove.new.self c.args.objects.now u
    × AreSideBySide (same_key g.A.Key.PartialEq.eq (g.A.HashAdapter.key_of a) c.args.objects.now) u) (sym e.kept.chains.adapter)
    (removed_beside (same_key g.A.Key.PartialEq.eq key_of c.args.objects.now) (keys_alike g.met.A.Key.Eq.laws key_of c.args.objects.now)
    (Holds g.L.SinglyLinkedListOps.successor hash g.B.BucketRow.fronts (g.L.LinkOps.table c.args.links.now) c.args.table.now c.args.objects.now)
    (Holds g.L.SinglyLinkedListOps.successor hash g.B.BucketRow.fronts (g.L.LinkOps.table c.remove.new.links) c.remove.new.self c.args.objects.now)
    c.remove.result q.0 q.1 q.2 (e.answer q.0 q.1) e.removed e.nothing (λ same. rw (same.0, same.1) q.1))

pub grow_one-requires : goal.grow_one-requires
grow_one-requires g c = record { held = (c.requires.beside.0, c.requires.beside.1) }

pub returns-in-Grow-clause-covers : goal.returns-in-Grow-clause-covers
returns-in-Grow-clause-covers g c = let q = c.requires.beside in places_of (c.grow_one.ensures.kept.frame q.0 (held_represented q.1)).extent c.requires.covers

pub returns-in-Grow-clause-beside : goal.returns-in-Grow-clause-beside
returns-in-Grow-clause-beside g c = c.grow_one.ensures.beside c.requires.beside

pub shrink_one-requires : goal.shrink_one-requires
shrink_one-requires g c = record { shown = (c.requires.beside.0, held_represented c.requires.beside.1) }

pub returns-in-Shrink-clause-covers : goal.returns-in-Shrink-clause-covers
returns-in-Shrink-clause-covers g c = let q = c.requires.beside in places_of (c.shrink_one.ensures.kept.frame q.0 (held_represented q.1)).extent c.requires.covers

pub returns-in-Shrink-clause-beside : goal.returns-in-Shrink-clause-beside
returns-in-Shrink-clause-beside g c = c.shrink_one.ensures.beside c.args.objects.now c.requires.beside

pub has_members-requires : goal.has_members-requires
has_members-requires g c = record { held = (c.requires.beside.0, c.requires.beside.1) }
