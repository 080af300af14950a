use Rattle.std.proofs.Common.{◌≡◌, List}
use Rattle.ic_link_ops.specs.Prelude.{Place, IsAbsent, IsMember, IsUnlinked}
use Rattle.ic_rbtree.specs.Tree.{root_of}
use Rattle.ic_raw.specs.Tree.{Represents, lent_table}
use Rattle.ic_raw.specs.TreeShape.{IsSeen, OnlyUnmarks}
use Rattle.ic_raw.specs.Words.{is_linked_three}
use Rattle.ic_raw.proofs.TreeWalks.{HasComeTo}
use Rattle.ic_raw.proofs.tree_clear.unmark_all.Given as goal

-- before each step, a walk through the tree, as an edit reads it, has come to `at`. The members before `at` are unlinked, and no other entry has
-- changed
abbrev pub invariant-loop-left : goal.invariant-loop-left
invariant-loop-left l = record {
  marks : OnlyUnmarks (lent_table l.fn.links) (lent_table l.links);
  walked : (s : List Place) → Represents (lent_table l.fn.links) (root_of l.fn.tree) s
      → (k : HasComeTo s l.at l.left) × IsSeen (lent_table l.links) (root_of l.fn.tree) s
      × ((p : Place) → IsMember p k.done → IsUnlinked is_linked_three (lent_table l.links) p)
      × ((q : Place) → IsAbsent q k.done → (lent_table l.links).entry q ≡ (lent_table l.fn.links).entry q);
}

abbrev pub decreases-loop-left : goal.decreases-loop-left
decreases-loop-left l = l.left
