use Rattle.ic_hash_table.specs.HashTable.{number}
use Rattle.keyed_tests.proofs.HashTables.{new_beside}
use Rattle.keyed_tests.proofs.hash_table.equals.play_equals.Goals as goal

pub loop-step-init : goal.loop-step-init
loop-step-init g c = record {
  covers = c.requires.covers;
  beside = new_beside g.L.SinglyLinkedListOps.successor (number g.A.HashAdapter.key_of g.A.HashAdapter.hash_of) g.B.BucketRow.fronts g.A.Key.PartialEq.eq g.A.HashAdapter.key_of (g.L.LinkOps.table c.args.links.now) c.args.table.now c.args.objects.now c.requires.new;
}
