use Rattle.std.proofs.Common.{◌≡◌}
use Rattle.ic_hash_table.specs.HashTable.{number, HoldsSome}
use Rattle.keyed_tests.proofs.hash_table.steps.play.Given as goal

abbrev pub invariant-loop-step : goal.invariant-loop-step
invariant-loop-step g l = record {
  covers : (g.L.LinkOps.table l.links).extent.places ≡ 8;
  held : HoldsSome g.L.SinglyLinkedListOps.successor (number g.A.HashAdapter.key_of g.A.HashAdapter.hash_of) g.B.BucketRow.fronts (g.L.LinkOps.table l.links) l.table l.objects;
}
