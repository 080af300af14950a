-- A place of a doubly linked list has two words, of 8 bytes or of 4 bytes each. This file says how a table of these words is read.
use Rattle.std.specs.Prelude.{◌≡◌, ℕ, Bool, List, Option}
use Rattle.ic_link_ops.specs.Prelude.{Place, Table, Neighbors, Width, wide, narrow, nameable}
use Rattle.ic_link_ops.specs.PlainTables as plain
use Rattle.ic_raw.specs.declared.words.RawTwo.{RawTwo}
use Rattle.ic_raw.specs.declared.words.RawNarrowTwo.{RawNarrowTwo}
use Rattle.ic_raw.specs.declared.table.RawTable.{RawTable}
use Rattle.ic_raw.specs.Tables.{nameable_table, neighbors_of, IsFree, member_fault, place_fault}
use Rattle.ic_raw.specs.Words.{no_words, is_linked_two, next_of_two, prev_of_two, no_narrow_words, is_linked_narrow, next_of_narrow, prev_of_narrow}

-- `LinkWords W` says how the words of a place are read. The record has the ghost members of the trait `PrevPlace`, which each type W of such words
-- implements
abbrev pub LinkWords : Type 0 → Type 1
LinkWords W = record {
  unlinked : W;
  is_linked : W → Bool;
  width : Width;
  next_word : W → ℕ;
  KeepsOthers : W → W → Type 0;
  prev : W → Option Place;
}

-- `wide_words` says how the two words of a place are read if each word has 8 bytes
abbrev pub wide_words : LinkWords RawTwo
wide_words = record {
  unlinked = no_words;
  is_linked = is_linked_two;
  width = wide;
  next_word = next_of_two;
  KeepsOthers = λ old new. prev_of_two new ≡ prev_of_two old;
  prev = prev_of_two;
}

-- `narrow_words` says how the two words of a place are read if each word has 4 bytes
abbrev pub narrow_words : LinkWords RawNarrowTwo
narrow_words = record {
  unlinked = no_narrow_words;
  is_linked = is_linked_narrow;
  width = narrow;
  next_word = next_of_narrow;
  KeepsOthers = λ old new. prev_of_narrow new ≡ prev_of_narrow old;
  prev = prev_of_narrow;
}

module _ {W : Type 0} (words : LinkWords W) where
  -- `neighbors` is the places before and after a place, which the words of its entry name
  abbrev pub neighbors : W → Neighbors
  neighbors = neighbors_of words.next_word words.is_linked words.prev

  -- THE TABLE OF A CALLER'S WORDS has only the places that words of this width can name, which are the first ones
  abbrev pub table_of : List W → Table W
  table_of es = plain.table_of words.unlinked (nameable words.width es)

  -- `lent_table` is the table of the words that a caller lends. The table has only the places that words of this width can name
  abbrev pub lent_table : RawTable W → Table W
  lent_table = nameable_table words.width words.unlinked

  -- the place belongs to the table of these words and is not linked
  abbrev pub FreeIn : List W → Place → Type 0
  FreeIn es = IsFree words.is_linked (table_of es)

  -- `fault_at` is the fault of a member that the caller names, and `fault_of` is the fault of a place that the caller wants to insert. Each is `OK`
  -- if there is no fault
  abbrev pub fault_at : List W → Option Place → ℕ
  fault_at es = member_fault words.is_linked (table_of es)

  abbrev pub fault_of : List W → Option Place → ℕ
  fault_of es = place_fault words.is_linked (table_of es)
