use Rattle.std.proofs.Common.{[], ◌∷◌, ap}
use Rattle.ic_link_ops.specs.Prelude.{Table, acquires}
use Rattle.ic_link_ops.proofs.Calling.{either}
use Rattle.keyed_tests.proofs.Extents.{places_of}
use Rattle.keyed_tests.proofs.TwoTrees.{both_ways, one_more}
use Rattle.keyed_tests.proofs.tree_merges.put.Goals as goal

pub insert-requires : goal.insert-requires
insert-requires g c =
    let q = c.requires.two in
    let placed = c.requires.placed c.reference.result (rw c.reference.ensures c.requires.few) in
    record {
      covered = rw (c.requires.covers, c.reference.ensures) c.requires.few;
      placed = record { members = q.first; shown = q.shown; placed = q.placed };
      object = placed;
    }

pub returns-clause-covers : goal.returns-clause-covers
returns-clause-covers g c =
    let e = c.insert.ensures in
    let q = c.requires.two in
    either _ c.insert.result (e.inserted q.first q.shown) e.refused e.unchanged (λ also. places_of also.inserted.frame.extent c.requires.covers)
    (λ refused same. places_of (ap (λ (t : Table g.row.L-Entry.Denot). t.extent) (g.met.L.LinkOps.refused_keeps _ _ _ refused)) c.requires.covers)

pub returns-clause-two : goal.returns-clause-two
returns-clause-two g c =
    let e = c.insert.ensures in
    let q = c.requires.two in
    let p = c.reference.result in
    let placed = c.requires.placed p (rw c.reference.ensures c.requires.few) in
    either _ c.insert.result (both_ways _ _ c.insert.result (e.inserted q.first q.shown) e.acquired) e.refused e.unchanged
    (λ also. one_more g.met.L.RBTreeOps.linked_alike q placed (g.met.L.LinkOps.does_replay _ _ (acquires p ∷ []) also.1).was also.0)
    (λ refused same. rw (g.met.L.LinkOps.refused_keeps _ _ _ refused, same) q)
