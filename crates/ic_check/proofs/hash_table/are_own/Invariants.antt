use Rattle.std.proofs.Common.{List, length}
use Rattle.ic_link_ops.specs.Prelude.{Place, IsFollowed, members_from}
use Rattle.ic_hash_table.specs.Prelude.{RepresentsFrom, number}
use Rattle.ic_check.specs.HashTables.{IsPlacedIn}
use Rattle.ic_check.proofs.HashTables.{Owns}
use Rattle.ic_check.proofs.hash_table.are_own.Given as goal

-- in each sequence that is represented for the chain, the members before `current` have objects that belong in this chain
abbrev pub invariant-loop-current : goal.invariant-loop-current
invariant-loop-current g l = record {
  owns : (s : List Place) → RepresentsFrom g.L.SinglyLinkedListOps.successor (g.L.LinkOps.table l.links) l.fn.front s
      → Owns (IsFollowed g.L.SinglyLinkedListOps.successor) (IsPlacedIn l.table.slots (number g.A.HashAdapter.key_of g.A.HashAdapter.hash_of l.table.adapter) (g.O.Values.values l.objects) l.at) (g.L.LinkOps.table l.links) s l.current;
}

abbrev pub decreases-loop-current : goal.decreases-loop-current
decreases-loop-current g l = length (members_from g.L.SinglyLinkedListOps.successor (g.L.LinkOps.table l.links) l.current)
