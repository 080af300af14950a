use Rattle.std.proofs.Common.{◌≡◌}
use Rattle.ic_hash_table.specs.Prelude.{number, HoldsSideBySide}
use Rattle.keyed_tests.proofs.hash_table.equals.play_equals.Given as goal

abbrev pub invariant-loop-step : goal.invariant-loop-step
invariant-loop-step g l = record {
  covers : (g.L.LinkOps.table l.links).extent.places ≡ 8;
  beside : HoldsSideBySide g.L.SinglyLinkedListOps.successor (number g.A.HashAdapter.key_of g.A.HashAdapter.hash_of) g.B.BucketRow.fronts g.A.Key.PartialEq.eq g.A.HashAdapter.key_of (g.L.LinkOps.table l.links) l.table l.objects;
}
