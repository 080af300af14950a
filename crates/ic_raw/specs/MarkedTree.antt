-- A check of a tree reads the words of the tree as they are.
use Rattle.std.specs.Prelude.{◌∷◌, [], List}
use Rattle.ic_link_ops.specs.Prelude.{Table, table_with}
use Rattle.ic_raw.specs.declared.words.RawThree.{RawThree}
use Rattle.ic_raw.specs.declared.marked_tree.MarkedTree.{MarkedTree}
use Rattle.ic_raw.specs.Words.{no_tree_words}

-- `marked_entries` is the words that the caller lends, in the order of their places
abbrev pub marked_entries : MarkedTree → List RawThree
marked_entries t = t.entries.now

-- `marked_table` is the words that the caller lends, as a table. The name of the borrow distinguishes this table from other tables that are lent
abbrev pub marked_table : MarkedTree → Table RawThree
marked_table t = table_with no_tree_words (t.entries.ghost_name ∷ []) (marked_entries t)
