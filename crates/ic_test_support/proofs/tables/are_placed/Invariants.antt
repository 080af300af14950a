use Rattle.std.proofs.Common.{◌≡◌, ◌<◌, true}
use Rattle.ic_link_ops.specs.Prelude.{Place, index_of, is_placed}
use Rattle.ic_test_support.proofs.tables.are_placed.Given as goal

abbrev pub invariant-loop-index : goal.invariant-loop-index
invariant-loop-index g l = record {
  placed : (q : Place) → index_of q < l.index → is_placed l.objects q ≡ true;
}
