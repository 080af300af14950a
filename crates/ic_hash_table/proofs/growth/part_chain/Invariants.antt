use Rattle.std.proofs.Common.{[], List, length}
use Rattle.ic_link_ops.specs.Prelude.{Place, ChangesOnlyIn, members_from}
use Rattle.ic_hash_table.specs.Growth.{belongs_at, IsParted}
use Rattle.ic_hash_table.specs.Prelude.{number, matches, RepresentsFrom}
use Rattle.ic_hash_table.proofs.growth.part_chain.Given as goal

abbrev pub invariant-loop-rest : goal.invariant-loop-rest
invariant-loop-rest g l = record {
  each : (chain : List Place) → RepresentsFrom g.L.SinglyLinkedListOps.successor (g.L.LinkOps.table l.fn.links) l.fn.front chain
      → IsParted g.L.SinglyLinkedListOps.successor (matches (belongs_at l.fn.slots (number g.A.HashAdapter.key_of g.A.HashAdapter.hash_of l.fn.adapter) l.fn.to) (g.O.Values.values l.fn.objects))
      (g.L.LinkOps.table l.links) chain l.rest l.halves.0 l.halves.1
      × ChangesOnlyIn (g.L.LinkOps.table l.fn.links) (g.L.LinkOps.table l.links) chain;
  trace_stays : g.L.LinkOps.Trace l.fn.links l.links [];
}

abbrev pub decreases-loop-rest : goal.decreases-loop-rest
decreases-loop-rest g l = length (members_from g.L.SinglyLinkedListOps.successor (g.L.LinkOps.table l.links) l.rest)
