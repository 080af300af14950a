use Rattle.std.proofs.Common.{rules, ◌≡◌}
use Rattle.ic_hash_table.proofs.Callers.{held_represented}
use Rattle.keyed_tests.proofs.hash_table.entry.enter.Goals as goal

pub returns-in-Vacant-clause-extent : goal.returns-in-Vacant-clause-extent
returns-in-Vacant-clause-extent g c =
    let is = rw c.in-Vacant.is at c.entry.ensures.vacant_borrows in
    let q = c.requires.held in
    let stays : (g.L.LinkOps.table c.insert.new.self.1.0).extent ≡ (g.L.LinkOps.table c.args.links.now).extent =
    (rw (is.2, is.3) at c.insert.ensures.kept.chains.frame q.0 (held_represented q.1)).extent in
    search (rules, stays)
