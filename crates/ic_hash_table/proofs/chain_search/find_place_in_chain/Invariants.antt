use Rattle.std.proofs.Common.{List, length}
use Rattle.ic_link_ops.specs.Prelude.{Place, IsFollowed, members_from}
use Rattle.ic_hash_table.specs.Prelude.{is_place, RepresentsFrom}
use Rattle.ic_hash_table.proofs.ChainWalks.{HasPassed}
use Rattle.ic_hash_table.proofs.chain_search.find_place_in_chain.Given as goal

-- whichever sequence the chain represents, the searched place is no member before `current`
abbrev pub invariant-loop-current : goal.invariant-loop-current
invariant-loop-current g l = record {
  passed : (s : List Place) → RepresentsFrom g.L.SinglyLinkedListOps.successor (g.L.LinkOps.table l.fn.links) l.fn.front s
      → HasPassed (IsFollowed g.L.SinglyLinkedListOps.successor) (is_place l.fn.place) (g.L.LinkOps.table l.fn.links) s l.before l.current;
}

abbrev pub decreases-loop-current : goal.decreases-loop-current
decreases-loop-current g l = length (members_from g.L.SinglyLinkedListOps.successor (g.L.LinkOps.table l.fn.links) l.current)
