use Rattle.ic_link_ops.specs.Sequences.{insert}
use Rattle.ic_link_ops.proofs.Calling.{either}
use Rattle.ic_hash_table.proofs.Callers.{held_represented}
use Rattle.keyed_tests.proofs.Extents.{places_of}
use Rattle.keyed_tests.proofs.hash_table.words.put.Goals as goal

pub returns-clause-covers : goal.returns-clause-covers
returns-clause-covers g c = let q = c.requires.held in places_of (c.insert.ensures.kept.chains.frame q.0 (held_represented q.1)).extent c.requires.covers

pub returns-clause-held : goal.returns-clause-held
returns-clause-held g c =
    let e = c.insert.ensures in
    let q = c.requires.held in
    either _ c.insert.result (e.inserted q.0 q.1) e.refused e.unchanged (λ also. (insert also.0 c.reference.result, also.2)) (λ refused same. (q.0, rw (g.met.L.LinkOps.refused_keeps _ _ _ refused, same) q.1))
