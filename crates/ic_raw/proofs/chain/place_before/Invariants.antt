use Rattle.std.proofs.Common.{◌≡◌, List}
use Rattle.ic_link_ops.specs.Prelude.{Place, list_from}
use Rattle.ic_hash_table.specs.Searches.{is_place}
use Rattle.ic_raw.specs.Prelude.{IsNoneOrLinked, is_linked_one}
use Rattle.ic_raw.specs.Singly.{Represents, lent_table, next_from}
use Rattle.ic_raw.proofs.HashWalks.{Comes}
use Rattle.ic_raw.proofs.Own.{IsPast}
use Rattle.ic_raw.proofs.chain.place_before.Given as goal

-- before each step, `before` is none or linked, and `current` is the place after it. If `before` is a place, `member` is not the first. In each
-- sequence that the words represent, the walk has passed only other members
abbrev pub invariant-loop-left : goal.invariant-loop-left
invariant-loop-left l = record {
  stands : IsNoneOrLinked is_linked_one (lent_table l.fn.links) l.before;
  leads : next_from (lent_table l.fn.links) (list_from l.fn.front) l.before ≡ l.current;
  past : IsPast l.fn.front l.current l.before l.fn.member;
  comes : (s : List Place) → Represents (lent_table l.fn.links) (list_from l.fn.front) s → Comes (is_place l.fn.member) (lent_table l.fn.links) s l.before l.current l.left;
}

abbrev pub decreases-loop-left : goal.decreases-loop-left
decreases-loop-left l = l.left
