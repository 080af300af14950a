-- This file says what a call does to all members of a tree, whose words a caller lends.
use Rattle.std.specs.Prelude.{◌∷◌, ◌*◌, ◌/◌, ℕ, List, [], Option, Some}
use Rattle.ic_link_ops.specs.Prelude.{Place, Table, IsLinked}
use Rattle.ic_link_ops.specs.RedBlackTree as trees
use Rattle.ic_link_ops.specs.declared.side.Side.TheVariants.{Right}
use Rattle.ic_rbtree.specs.StepsTo.{StepsTo}
use Rattle.ic_raw.specs.declared.words.RawThree.{RawThree}
use Rattle.ic_raw.specs.declared.words.RawRoot.{RawRoot}
use Rattle.ic_raw.specs.Words.{no_tree_words, is_linked_three}
use Rattle.ic_raw.specs.Seen.{seen, seen_node, StepEndsIn}
use Rattle.ic_raw.specs.Tree.{Represents, root_in}
use Rattle.ic_raw.specs.Calls as calls

-- the table represents s as the tree with this root, if one ignores which members have the mark of a linked place
abbrev pub IsSeen : Table RawThree → Option Place → List Place → Type 0
IsSeen t = trees.Represents seen_node (seen t)

-- if the table represents the tree, the call unlinks each of its members
abbrev pub Cleared : (old new : List RawThree) (tree tree' : RawRoot) (status : ℕ) → List Place → Type 0
Cleared = calls.Cleared Represents is_linked_three no_tree_words root_in

-- `unmarked w` is the entry w without the mark of a linked place. It names the same places as w
abbrev pub unmarked : RawThree → RawThree
unmarked w = record w { left = w.left / 2 * 2 }

-- MARKS ARE CLEARED, AND NOTHING ELSE CHANGES: each entry is as it was, or it has lost the mark of a linked place
abbrev pub OnlyUnmarks : (old new : Table RawThree) → Type 0
OnlyUnmarks = calls.OnlyUnlinks is_linked_three unmarked

-- STEPS TO THE RIGHT LEAD THROUGH THE PLACES of the list, one after the other, to an end. Each of these places is linked. The steps begin at the
-- place `at`, or before the first member if `at` is none
abbrev pub LeadsThrough : Table RawThree → (root at : Option Place) → List Place → Type 0
LeadsThrough t root at [] = StepEndsIn t root Right at
LeadsThrough t root at (x ∷ s) = StepsTo seen_node (seen t) root Right at x × IsLinked is_linked_three t x × LeadsThrough t root (Some x) s

-- STEPS TO THE RIGHT LEAD TO AN END from the place `at`, and each place on the way is linked
abbrev pub LeadsToEnd : Table RawThree → (root at : Option Place) → Type 0
LeadsToEnd t root at = (s : List Place) × LeadsThrough t root at s
