-- This file describes the links that a table stores for doubly linked lists.
use Rattle.std.specs.Prelude.{◌≡◌, ℕ, ◌<◌, List, length, slice_index_or, Bool, true, refl, ⊤}
use Rattle.ic_unsafe_ref.specs.declared.place.Place.{Place}
use Rattle.ic_link_ops.specs.declared.link.Link.{Link}
use Rattle.ic_link_ops.specs.declared.linked_list.TwoWords.{TwoWords}
use Rattle.ic_link_ops.specs.declared.table.PlainTable.{PlainTable}
use Rattle.ic_link_ops.specs.Tables.{Table}
use Rattle.ic_link_ops.specs.Chains.{Ends}
use Rattle.ic_link_ops.specs.LinkedList.{Neighbors, Represents, RepresentsSome, members}
use Rattle.ic_link_ops.specs.Links.{link_of}
use Rattle.ic_link_ops.specs.TwoWords.{no_words, has_words, next_word_of, prev_of}
use Rattle.ic_link_ops.specs.Readings as readings
use Rattle.ic_link_ops.specs.EntryLaws as laws
use Rattle.ic_link_ops.specs.PlainTables as plain

-- A link of a doubly linked list consists of two words.
abbrev pub DoublyLink : Type 0
DoublyLink = Link (TwoWords ℕ) ⊤

-- A table that stores links of two words, for doubly linked lists.
abbrev pub DoublyLinkOps : Type 0 → Type 0
DoublyLinkOps A = PlainTable (TwoWords ℕ) A ⊤

-- The link of a place that is not linked.
abbrev pub unlinked : DoublyLink
unlinked = link_of no_words

-- `is_linked` says whether a link belongs to a linked place.
abbrev pub is_linked : DoublyLink → Bool
is_linked = plain.linked_by has_words

-- The parts of a link: whether its place is linked, and which places are before and after it.
abbrev pub neighbors_of : DoublyLink → Neighbors
neighbors_of = readings.neighbors_of next_word_of has_words prev_of

-- The links of a table for doubly linked lists, in the order of their places.
abbrev pub entries : {A : Type 0} → DoublyLinkOps A → List DoublyLink
entries = plain.entries

-- `entry_at links p` is the link of the place p. For a place beyond the last link, the result is the link of an unlinked place.
abbrev pub entry_at : List DoublyLink → Place → DoublyLink
entry_at = plain.entry_at unlinked

-- The table that is made of a list of links.
abbrev pub table_of : List DoublyLink → Table DoublyLink
table_of = plain.table_of unlinked

-- The plain table `links`, in the form in which the contracts of its callers describe it.
abbrev pub plain_table : {A : Type 0} → DoublyLinkOps A → Table DoublyLink
plain_table links = table_of (entries links)

-- A table of links with two words represents a sequence of places for a doubly linked list.
abbrev pub RepresentsList : Table DoublyLink → Ends → List Place → Type 0
RepresentsList = Represents neighbors_of

-- `PlainRepresents` says that the plain table represents the sequence s for the list. `PlainRepresentsSome` says that the plain
-- table represents some sequence for the list.
abbrev pub PlainRepresents : {A : Type 0} → DoublyLinkOps A → Ends → List Place → Type 0
PlainRepresents links list s = RepresentsList (plain_table links) list s

abbrev pub PlainRepresentsSome : {A : Type 0} → DoublyLinkOps A → Ends → Type 0
PlainRepresentsSome links list = RepresentsSome neighbors_of (plain_table links) list

-- The members of a list in order, read from the links of the plain table.
abbrev pub members_of : {A : Type 0} → DoublyLinkOps A → Ends → List Place
members_of links list = members neighbors_of (plain_table links) list

-- If the link with the index i belongs to a linked place, i is below the number of links.
pub linked_in_range : (es : List DoublyLink) (i : ℕ) → is_linked (slice_index_or es i unlinked) ≡ true → i < length es
linked_in_range = laws.linked_in_range is_linked unlinked refl
