-- These trees are over a table that stores a number beside each link. The number is the key of the link's place.
use Rattle.std.specs.Prelude.{ℕ, Option}
use Rattle.ic_link_ops.specs.Prelude.{Place, Objects, at_indexes, Table, entries, table_beside, values_beside, wide}
use Rattle.ic_link_ops.specs.declared.link.Link.{Link}
use Rattle.ic_link_ops.specs.declared.rbtree.ThreeWords.{ThreeWords}
use Rattle.ic_link_ops.specs.declared.table.PlainTable.{PlainTable}
use Rattle.ic_link_ops.specs.RedBlackTree.{Represents}
use Rattle.ic_link_ops.specs.ThreeWords.{no_words, node_of}
use Rattle.ic_rbtree.specs.SortedObjects.{RepresentsSorted}

module _ {A : Type 0} where
  -- the table of tree links, in the form that contracts use. `keys_of` gives the key that is stored at each place of the table
  abbrev pub keyed_table : PlainTable (ThreeWords ℕ) A ℕ → Table (Link (ThreeWords ℕ) ℕ)
  keyed_table links = table_beside wide no_words 0 (λ s. s) links

  abbrev pub keys_of : PlainTable (ThreeWords ℕ) A ℕ → Objects ℕ
  keys_of links = at_indexes (values_beside (entries links))

  -- the table represents a tree in the order of its keys
  abbrev pub RepresentsKeys : PlainTable (ThreeWords ℕ) A ℕ → Option Place → Type 0
  RepresentsKeys links root = RepresentsSorted (λ (v : ℕ). v) (Represents node_of (keyed_table links) root) (keys_of links)
