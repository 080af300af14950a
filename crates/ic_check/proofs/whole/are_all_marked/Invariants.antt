use Rattle.std.proofs.Common.{◌≡◌, ◌<◌, true}
use Rattle.ic_link_ops.specs.Prelude.{Place, index_of, IsLinked}
use Rattle.ic_check.specs.WholeTables.{is_marked}
use Rattle.ic_check.proofs.whole.are_all_marked.Given as goal

abbrev pub invariant-loop-index : goal.invariant-loop-index
invariant-loop-index g l = record {
  marked : (p : Place) → index_of p < l.index → IsLinked g.L.LinkOps.linked (g.L.LinkOps.table l.links) p → is_marked l.marks p ≡ true;
}
