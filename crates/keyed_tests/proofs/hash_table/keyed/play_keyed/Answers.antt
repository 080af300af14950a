use Rattle.ic_hash_table.specs.HashTable.{number}
use Rattle.ic_hash_table.proofs.Callers.{new_held}
use Rattle.keyed_tests.proofs.hash_table.keyed.play_keyed.Goals as goal

pub loop-step-init : goal.loop-step-init
loop-step-init g c = record {
  covers = c.requires.covers;
  held = new_held g.L.SinglyLinkedListOps.successor (number g.A.HashAdapter.key_of g.A.HashAdapter.hash_of) g.B.BucketRow.fronts (g.L.LinkOps.table c.args.links.now) c.args.table.now (g.L.Values.values c.args.links.now) c.requires.new;
}
