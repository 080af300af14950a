use Rattle.std.proofs.Common.{◌≡◌, List, Option, Some, None}
use Rattle.ic_unsafe_ref.specs.declared.place.Place.{Place}
use Rattle.ic_link_ops.specs.declared.side.Side.TheVariants.{Right}
use Rattle.ic_rbtree.specs.Prelude.{IsIn, StepsTo, root_of}
use Rattle.ic_raw.specs.Prelude.{IsNoneOrLinked, seen, seen_node, has_place, StepEndsIn, is_linked_three}
use Rattle.ic_raw.specs.Tree.{lent_table}
use Rattle.ic_raw.specs.TreeShape.{IsSeen, LeadsToEnd}
use Rattle.ic_raw.proofs.TreeWalks.{HasComeTo}
use Rattle.ic_raw.proofs.tree_clear.leads_to_end.Given as goal

-- before each step, a walk through the tree, as an edit reads it, has come to `at`. Whatever the words say, a step leads to `at` from the place
-- `from`, which is none or linked. If steps from `from` lead to an end, then steps from the first member do so, too
abbrev pub invariant-loop-left : goal.invariant-loop-left
invariant-loop-left l =
    let t = lent_table l.fn.links in
    let root = root_of l.fn.tree in
    record {
      walked : (s : List Place) → IsSeen t root s → HasComeTo s l.at l.left;
      led : (from : Option Place) × IsNoneOrLinked is_linked_three t from
          × ((q : Place) → l.at ≡ Some q → StepsTo seen_node (seen t) root Right from q)
          × (IsIn (has_place t) root → l.at ≡ None → StepEndsIn t root Right from)
          × (LeadsToEnd t root from → LeadsToEnd t root None);
    }

abbrev pub decreases-loop-left : goal.decreases-loop-left
decreases-loop-left l = l.left
