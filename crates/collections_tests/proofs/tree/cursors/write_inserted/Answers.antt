use Rattle.ic_link_ops.proofs.Positions.{stands_last}
use Rattle.collections_tests.proofs.tree.cursors.write_inserted.Goals as goal

pub insert-requires-clause-stands : goal.insert-requires-clause-stands
insert-requires-clause-stands c =
    let s = c.requires.shown in
    let e = c.back_mut-cursor.ensures in
    stands_last s.members (rw (e.borrows.2, e.borrows.3) s.shown) (e.position s.members s.shown)
