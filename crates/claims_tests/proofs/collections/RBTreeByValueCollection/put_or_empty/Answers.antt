use Rattle.ic_link_ops.proofs.Positions.{stands_null, stands_first}
use Rattle.claims_tests.proofs.collections.RBTreeByValueCollection.put_or_empty.Goals as goal

pub insert_before-requires-clause-stands : goal.insert_before-requires-clause-stands
insert_before-requires-clause-stands g c =
    let s = c.requires.shown in
    let e = c.cursor_mut.ensures in
    stands_null s.0 (rw (e.borrows.3, e.borrows.2) s.1) e.null

pub remove-requires : goal.remove-requires
remove-requires g c =
    let s = c.requires.shown in
    let e = c.front_mut.ensures in
    record { stands = stands_first s.0 (rw (e.borrows.3, e.borrows.2) s.1) (e.position s.0 s.1) }
