use Rattle.collections_tests.proofs.Trees.{can_insert}
use Rattle.collections_tests.proofs.tree.keys.write_entry.Goals as goal

pub or_insert_with-requires-clause-vacant : goal.or_insert_with-requires-clause-vacant
or_insert_with-requires-clause-vacant g c =
    let shown = c.requires.shown.shown in
    let e = c.entry-entry.ensures in
    can_insert g.L.RBTreeOps.node g.L.LinkOps.table _ _ _ _ _ shown c.entry-entry.result (e.vacant _ shown) e.vacant_borrows
