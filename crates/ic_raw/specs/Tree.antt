-- This file says when words that a caller lends represent a red-black tree.
use Rattle.std.specs.Prelude.{◌≡◌, ℕ, List, Option, Some, None}
use Rattle.ic_link_ops.specs.Prelude.{Place, word_of, Cut, Table, Node}
use Rattle.ic_link_ops.specs.declared.side.Side.{Side}
use Rattle.ic_link_ops.specs.Frames.{child_on}
use Rattle.ic_link_ops.specs.RedBlackTree as trees
use Rattle.ic_link_ops.specs.PlainTables as plain
use Rattle.ic_rbtree.specs.Insertion as insert_positions
use Rattle.ic_raw.specs.declared.words.RawThree.{RawThree}
use Rattle.ic_raw.specs.declared.words.RawRoot.{RawRoot}
use Rattle.ic_raw.specs.declared.table.RawTable.{RawTable}
use Rattle.ic_raw.specs.Words.{place_in, no_tree_words, is_linked_three, color_of}
use Rattle.ic_raw.specs.Tables.{raw_table}
use Rattle.ic_raw.specs.Calls as calls

-- `table_of` is the table that has these words, and `lent_table` is the table of the words that a caller lends
abbrev pub table_of : List RawThree → Table RawThree
table_of = plain.table_of no_tree_words

abbrev pub lent_table : RawTable RawThree → Table RawThree
lent_table = raw_table no_tree_words

-- `node` is the node of the tree that the words of an entry describe: its two children, its parent, its color, and whether it is linked
abbrev pub node : RawThree → Node
node w = record { linked = is_linked_three w; left = place_in w.left; right = place_in w.right; parent = place_in w.parent; color = color_of w }

-- THE TABLE REPRESENTS A SEQUENCE of places as the red-black tree with this root
abbrev pub Represents : Table RawThree → Option Place → List Place → Type 0
Represents = trees.Represents node

-- `root_in` is the root of a tree, which the tree's word names
abbrev pub root_in : RawRoot → Option Place
root_in t = place_in t.root

-- `word_of_root` is the word of a tree with this root, as a call writes it. The word is 0 if the tree has no root
abbrev pub word_of_root : Option Place → RawRoot
word_of_root root = record { root = word_of root }

-- the word of a tree has exactly the bits that a call writes
abbrev pub IsWritten : RawRoot → Type 0
IsWritten t = t ≡ word_of_root (root_in t)

-- THE CUT IS A POSITION FOR A CHILD on this side of the member `at`, which has no child there: the cut is before `at` on the left side, and after
-- `at` on the right. If `at` is none, the tree is empty
abbrev pub IsInsertPos : Side → Table RawThree → Option Place → Cut → Type 0
IsInsertPos side t at cut = insert_positions.IsInsertPos node t at side cut

-- THE LINKS CONFIRM A POSITION FOR A CHILD: the place has no child on this side, or, if no place is given, the tree has no root
abbrev pub TellsInsertPos : Side → Table RawThree → (root : Option Place) → Option Place → Type 0
TellsInsertPos side t root None = root ≡ None
TellsInsertPos side t root (Some p) = child_on side (node (t.entry p)) ≡ None

-- THE DEFINITIONS BELOW are those of the file Calls, for red-black trees
abbrev pub RepresentsTree : List RawThree → RawRoot → List Place → Type 0
RepresentsTree = calls.RepresentsList Represents is_linked_three no_tree_words root_in

abbrev pub FreeIn : List RawThree → Place → Type 0
FreeIn = calls.FreeIn Represents is_linked_three no_tree_words root_in

abbrev pub IsNoneOrLinkedIn : List RawThree → Option Place → Type 0
IsNoneOrLinkedIn = calls.IsNoneOrLinkedIn Represents is_linked_three no_tree_words root_in

abbrev pub fault_at : List RawThree → Option Place → ℕ
fault_at = calls.fault_at Represents is_linked_three no_tree_words root_in

abbrev pub fault_of : List RawThree → Option Place → ℕ
fault_of = calls.fault_of Represents is_linked_three no_tree_words root_in

abbrev pub Inserted : (old new : List RawThree) (tree tree' : RawRoot) (status : ℕ) → Cut → Place → Type 0
Inserted = calls.Inserted Represents is_linked_three no_tree_words root_in

abbrev pub Removed : (old new : List RawThree) (tree tree' : RawRoot) (status : ℕ) → Place → (front back : List Place) → Type 0
Removed = calls.Removed Represents is_linked_three no_tree_words root_in

abbrev pub Replaced : (old new : List RawThree) (tree tree' : RawRoot) (status : ℕ) → Place → (front back : List Place) → Place → Type 0
Replaced = calls.Replaced Represents is_linked_three no_tree_words root_in
