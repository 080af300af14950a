use Rattle.std.proofs.Common.{rules, ◌≡◌}
use Rattle.ic_hash_table.proofs.Callers.{held_represented}
use Rattle.keyed_tests.proofs.hash_table.entry.leave.Goals as goal

pub returns-in-Occupied-clause-extent : goal.returns-in-Occupied-clause-extent
returns-in-Occupied-clause-extent g c =
    let is = rw c.in-Occupied.is at c.entry.ensures.occupied_borrows in
    let q = c.requires.held in
    let stays : (g.L.LinkOps.table c.remove.new.self.1.0).extent ≡ (g.L.LinkOps.table c.args.links.now).extent =
    (rw (is.2, is.3) at c.remove.ensures.kept.chains.frame q.0 (held_represented q.1)).extent in
    search (rules, stays)
