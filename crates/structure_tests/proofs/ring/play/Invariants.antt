use Rattle.std.proofs.Common.{◌≡◌, ◌<◌, true}
use Rattle.ic_link_ops.specs.Prelude.{Place, index_of, is_placed}
use Rattle.structure_tests.specs.TwoRings.{TwoRings}
use Rattle.structure_tests.proofs.ring.play.Given as goal

abbrev pub invariant-loop-rows : goal.invariant-loop-rows
invariant-loop-rows g l = record {
  placed : (q : Place) → index_of q < 8 → is_placed l.objects q ≡ true;
  two : TwoRings g.L.LinkedListOps.neighbors (g.L.LinkOps.table l.links) l.ring l.other;
}
