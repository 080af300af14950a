use Rattle.std.proofs.Common.{None, [], refl}
use Rattle.ic_link_ops.proofs.SinglyLists.{successors_covered}
use Rattle.ic_hash_table.specs.HashTable.{number}
use Rattle.ic_hash_table.proofs.RemainingMembers.{left_is}
use Rattle.ic_hash_table.proofs.table.HashTable.iter.Goals as goal

pub returns-clause-walks : goal.returns-clause-walks
returns-clause-walks g c s held =
    left_is {K = g.row.A-Key.Denot} g.L.SinglyLinkedListOps.successor g.L.LinkOps.table (number g.A.HashAdapter.key_of g.A.HashAdapter.hash_of) g.B.BucketRow.fronts g.O.Values.values
    (successors_covered g.L.SinglyLinkedListOps.successor g.L.LinkOps.table g.met.L.LinkOps.linked_is_covered g.met.L.SinglyLinkedListOps.linked_alike)
    (record { table = c.args.self; links = c.args.links; objects = c.args.objects; of = record {}; at = None }) (record { front = []; back = s }, held, refl)

pub returns-clause-can_walk : goal.returns-clause-can_walk
returns-clause-can_walk g c = (record { front = []; back = c.requires.held.0 }, c.requires.held.1, refl)
