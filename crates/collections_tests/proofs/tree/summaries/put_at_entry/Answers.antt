use Rattle.std.proofs.Common.{◌≡◌, [], ◌∷◌, rules}
use Rattle.collections_tests.specs.Ready.{IsReady}
use Rattle.collections_tests.proofs.Ready.{inserted_ready, ready_placed}
use Rattle.collections_tests.proofs.Trees.{vacant_one}
use Rattle.collections_tests.proofs.tree.summaries.put_at_entry.Goals as goal

pub entry-requires : goal.entry-requires
entry-requires g c = record { placed = ready_placed g.E.TreeHead.kept g.L.LinkOps.linked g.met.L.RBTreeOps.linked_alike g.met.L.LinkOps.linked_is_covered c.requires.ready c.args.objects.now c.requires.placed }

pub returns-in-Ok : goal.returns-in-Ok
returns-in-Ok g c =
    let q = c.requires.ready in
    let one = vacant_one c.entry.result c.in_default.not-Occupied in
    let v = rw one.1 at (c.entry.ensures.vacant q.members q.shown) in
    let b = rw one.1 at c.entry.ensures.vacant_borrows in
    let put = rw one.1 at c.in-Ok.ensures.vacant in
    let names = put.borrows in
    let done : IsReady g.E.TreeHead.kept g.L.RBTreeOps.node g.L.LinkOps.table g.M.Summaries.summaries g.M.Summaries.Covers c.in-Ok._cursor.list.now c.in-Ok._cursor.links.now
    = inserted_ready g.E.TreeHead.kept q (rw b.3 at put.acquired) v.gap (rw v.same q.shown) (rw b.3 at (put.inserted v.gap (rw (b.3, b.2, v.same) q.shown) (rw b.3 v.is_at))) in
    record { ready = search rules }
