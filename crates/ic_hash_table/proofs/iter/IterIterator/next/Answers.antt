use Rattle.std.proofs.Common.{Some, refl, sym}
use Rattle.ic_link_ops.proofs.PlacedEnds.{first_placed}
use Rattle.ic_link_ops.proofs.SinglyLists.{successors_covered}
use Rattle.ic_hash_table.specs.HashTable.{number}
use Rattle.ic_hash_table.proofs.RemainingMembers.{back_placed, none_left, gives, goes}
use Rattle.ic_hash_table.proofs.iter.IterIterator.next.Goals as goal

pub returns-in_err-place-clause-steps : goal.returns-in_err-place-clause-steps
returns-in_err-place-clause-steps g c =
    let none = none_left g.L.SinglyLinkedListOps.successor g.L.LinkOps.table (number g.A.HashAdapter.key_of g.A.HashAdapter.hash_of) g.B.BucketRow.fronts g.O.Values.values
    (successors_covered g.L.SinglyLinkedListOps.successor g.L.LinkOps.table g.met.L.LinkOps.linked_is_covered g.met.L.SinglyLinkedListOps.linked_alike) c.args.self.now c.requires
    (rw c.in_err-place.was at (c.next.ensures c.requires.0 c.requires.1 c.requires.2)) in
    rw c.from_residual.ensures ((none, none), refl)

pub value-value-requires : goal.value-value-requires
value-value-requires g c =
    let k = c.requires in
    record {
      placed = first_placed (g.O.Values.values c.args.self.now.objects.now) k.0.back (back_placed g.L.SinglyLinkedListOps.successor g.L.LinkOps.table (number g.A.HashAdapter.key_of g.A.HashAdapter.hash_of) g.B.BucketRow.fronts g.O.Values.values c.args.self.now k) (rw c.in_ok-place.was at (c.next.ensures k.0 k.1 k.2));
    }

pub returns-clause-steps : goal.returns-clause-steps
returns-clause-steps g c =
    gives g.L.SinglyLinkedListOps.successor g.L.LinkOps.table (number g.A.HashAdapter.key_of g.A.HashAdapter.hash_of) g.B.BucketRow.fronts g.O.Values.values
    (successors_covered g.L.SinglyLinkedListOps.successor g.L.LinkOps.table g.met.L.LinkOps.linked_is_covered g.met.L.SinglyLinkedListOps.linked_alike) c.args.self.now c.in_ok-place.place c.requires
    (rw c.in_ok-place.was at (c.next.ensures c.requires.0 c.requires.1 c.requires.2)) (Some c.value-value.result) (sym c.value-value.ensures)

pub returns-clause-goes : goal.returns-clause-goes
returns-clause-goes g c =
    goes g.L.SinglyLinkedListOps.successor g.L.LinkOps.table (number g.A.HashAdapter.key_of g.A.HashAdapter.hash_of) g.B.BucketRow.fronts g.O.Values.values
    (successors_covered g.L.SinglyLinkedListOps.successor g.L.LinkOps.table g.met.L.LinkOps.linked_is_covered g.met.L.SinglyLinkedListOps.linked_alike) c.args.self.now c.in_ok-place.place c.requires
    (rw c.in_ok-place.was at (c.next.ensures c.requires.0 c.requires.1 c.requires.2)) (Some c.value-value.result) (sym c.value-value.ensures)
