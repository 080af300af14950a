use Rattle.std.proofs.Common.{ap}
use Rattle.ic_link_ops.specs.Prelude.{insert, at_back, Table}
use Rattle.ic_link_ops.proofs.Calling.{either}
use Rattle.keyed_tests.proofs.builder.push.Goals as goal

pub returns-clause-shown : goal.returns-clause-shown
returns-clause-shown g c =
    let e = c.push_back.ensures in
    let q = c.requires.shown in
    either _ c.push_back.result (e.inserted q.0 q.1) e.refused e.unchanged (λ also. (insert (at_back q.0) c.args.object, also.shows))
    (λ refused same. (q.0, rw (g.met.L.LinkOps.refused_keeps _ _ _ refused, same) q.1))

pub returns-clause-extent : goal.returns-clause-extent
returns-clause-extent g c =
    let e = c.push_back.ensures in
    let q = c.requires.shown in
    either _ c.push_back.result (e.inserted q.0 q.1) e.refused e.unchanged (λ also. also.frame.extent)
    (λ refused same. ap (λ (t : Table g.row.L-Entry.Denot). t.extent) (g.met.L.LinkOps.refused_keeps _ _ _ refused))
