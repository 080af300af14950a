use Rattle.std.proofs.Common.{ℕ, false, List, Option}
use Rattle.ic_link_ops.specs.Prelude.{Place, list_from}
use Rattle.ic_raw.specs.Singly.{Represents, lent_table}
use Rattle.ic_raw.proofs.HashChecks.{WalksOwn}
use Rattle.ic_raw.proofs.HashWalks.{Comes}
use Rattle.ic_raw_keyed.specs.Growth.{LeadsToLinked}
use Rattle.ic_raw_keyed.proofs.growth.can_move.Given as goal

-- The places that the walk has passed are linked, and their hashes lead to buckets that are empty or begin with linked places. In each sequence that the table
-- represents, the walk has still to visit at most `left` members
abbrev pub invariant-loop-left : goal.invariant-loop-left
invariant-loop-left l = record {
  comes : (s : List Place) → Represents (lent_table l.fn.links) (list_from l.fn.front) s
      → (before : Option Place) × Comes (λ p. false) (lent_table l.fn.links) s before l.current l.left;
  walks : (n : ℕ) × WalksOwn (LeadsToLinked (lent_table l.fn.links) l.fn.hashes l.fn.buckets) (lent_table l.fn.links) l.fn.front l.current n;
}

abbrev pub decreases-loop-left : goal.decreases-loop-left
decreases-loop-left l = l.left
