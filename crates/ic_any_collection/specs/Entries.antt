-- What an entry contains, whichever kind of table it is in.
use Rattle.std.specs.Prelude.{◌≡◌, ℕ, Bool, Option, None, [], ◌∷◌, bit_xor, ⊤}
use Rattle.ic_link_ops.specs.Prelude.{Place, place_at, word_of, Table, Neighbors, Successor, Node, words_of, table, wide}
use Rattle.ic_link_ops.specs.declared.color.Color.TheVariants.{Red}
use Rattle.ic_link_ops.specs.declared.table.PlainTable.{PlainTable}
use Rattle.ic_link_ops.specs.DoublyEntries.{DoublyLink}
use Rattle.ic_link_ops.specs.declared.link.Link.{Link}
use Rattle.ic_link_ops.specs.declared.one_word.OneWord.{OneWord}
use Rattle.ic_link_ops.specs.declared.rbtree.ThreeWords.{ThreeWords}
use Rattle.ic_link_ops.specs.OneWord as one
use Rattle.ic_link_ops.specs.TwoWords as two
use Rattle.ic_link_ops.specs.ThreeWords as three
use Rattle.ic_any_collection.specs.declared.entry.Entry.{Entry}
use Rattle.ic_any_collection.specs.declared.kind.Kind.{Kind}
use Rattle.ic_any_collection.specs.Kinds.{number_of, kind_with}

-- three functions compute the entry that a link of one, two or three words describes
abbrev pub of_one : {K : Type 0} → Link (OneWord K ℕ) ⊤ → Entry
of_one l = record { linked = one.has_word (words_of l); word = one.next_word_of (words_of l); prev = None; parent = None; color = Red }

abbrev pub of_two : DoublyLink → Entry
of_two l = record { linked = two.has_words (words_of l); word = two.next_word_of (words_of l); prev = two.prev_of (words_of l); parent = None; color = Red }

abbrev pub of_three : Link (ThreeWords ℕ) ⊤ → Entry
of_three l = record { linked = three.has_link (words_of l); word = three.right_word_of (words_of l); prev = three.left_of (words_of l); parent = (three.node_of l).parent; color = (three.node_of l).color }

-- a table of tree links as the contracts of trees describe it, and whether one of its links is linked
abbrev pub tree_table_in : {M : Type 0} → PlainTable (ThreeWords ℕ) M ⊤ → Table (Link (ThreeWords ℕ) ⊤)
tree_table_in t = table wide three.no_words t

abbrev pub is_tree_linked : Link (ThreeWords ℕ) ⊤ → Bool
is_tree_linked l = three.has_link (words_of l)

-- the following functions say what each kind of collection reads in an entry
abbrev pub is_linked : Entry → Bool
is_linked e = e.linked

abbrev pub neighbors : Entry → Neighbors
neighbors e = record { linked = e.linked; prev = e.prev; next = place_at e.word }

abbrev pub successor : Entry → Successor
successor e = record { linked = e.linked; next = place_at e.word }

abbrev pub node : Entry → Node
node e = record { linked = e.linked; left = e.prev; right = place_at e.word; parent = e.parent; color = e.color }

-- in an XOR list, the word of a member's entry is the exclusive or of the words of its two neighbors a and b. `other` computes b from the entry and a
abbrev pub HasNeighbors : Entry → Option Place → Option Place → Type 0
HasNeighbors e a b = e.word ≡ bit_xor (word_of a) (word_of b)

abbrev pub other : Entry → Option Place → Option Place
other e a = place_at (bit_xor e.word (word_of a))

-- a table of links, read as a table of entries: `of` computes each entry from a link, and the identity in the extent is the number of `kind`
abbrev pub read : {E : Type 0} → Kind → (E → Entry) → Table E → Table Entry
read kind of t = record { extent = record { places = t.extent.places; identity = number_of kind ∷ [] }; entry = λ p. of (t.entry p) }

-- the kind of a table, computed from the number in the extent of the table
abbrev pub kind_of : Table Entry → Kind
kind_of t = kind_with t.extent.identity
