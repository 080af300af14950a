use Rattle.std.proofs.Common.{◌≡◌, List, Option}
use Rattle.ic_link_ops.specs.Prelude.{Place, list_from}
use Rattle.ic_raw.specs.Hash.{has_key}
use Rattle.ic_raw.specs.Singly.{Represents, lent_table}
use Rattle.ic_raw.proofs.HashWalks.{Comes, WalksTo}
use Rattle.ic_raw.proofs.chain.find_from.Given as goal

-- before each step, the walk has passed members with other keys, in each sequence that the words represent. The links lead from `from` to `current`,
-- and `found` is not changed yet
abbrev pub invariant-loop-left : goal.invariant-loop-left
invariant-loop-left l = record {
  comes : (s : List Place) → Represents (lent_table l.fn.links) (list_from l.fn.from) s
      → (before : Option Place) × Comes (has_key l.fn.keys l.fn.key) (lent_table l.fn.links) s before l.current l.left;
  leads : WalksTo (lent_table l.fn.links) l.fn.from l.current;
  same : l.found ≡ l.fn.found;
}

abbrev pub decreases-loop-left : goal.decreases-loop-left
decreases-loop-left l = l.left
