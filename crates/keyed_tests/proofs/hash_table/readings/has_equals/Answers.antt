use Rattle.std.proofs.Common.{subst}
use Rattle.ic_hash_table.specs.HashTable.{number, Holds}
use Rattle.keyed_tests.proofs.hash_table.readings.has_equals.Goals as goal

pub next_equal-equal-requires : goal.next_equal-equal-requires
next_equal-equal-requires g c =
    let q = c.requires.held in
    let f = c.in-Some.ensures.found q.0 q.1 in
    record { member = record { front = f.0; back = f.1; shown = subst (Holds g.L.SinglyLinkedListOps.successor (number g.A.HashAdapter.key_of g.A.HashAdapter.hash_of) g.B.BucketRow.fronts (g.L.LinkOps.table c.args.links.now) c.args.table.now c.args.objects.now) f.2 q.1 } }
