-- A table has one entry for each place. The entries are words that a caller lends.
use Rattle.std.specs.Prelude.{◌≡◌, ◌∷◌, [], List, ℕ, Bool, cond, nat_lt, Option, Some, None}
use Rattle.std.specs.Borrow.{MutBor}
use Rattle.ic_link_ops.specs.Prelude.{Place, index_of, Table, IsCovered, IsUnlinked, table_with, Width, wide, nameable, link_of, Neighbors, Successor}
use Rattle.ic_link_ops.specs.Readings as readings
use Rattle.ic_raw.specs.declared.status.TheConstants.{OK, OUT_OF_RANGE, LINKED, NOT_LINKED}
use Rattle.ic_raw.specs.declared.table.RawTable.{RawTable}

module _ {W : Type 0} where
  -- the table t is a view of the words that are lent: it has the name of their borrow, and its entries are these words
  abbrev pub IsView : MutBor (List W) → RawTable W → Type 0
  IsView words t = (t.entries.ghost_name ≡ words.ghost_name) × (t.entries.now ≡ words.now)

  -- `raw_entries` is the words that the caller lends, in the order of their places
  abbrev pub raw_entries : RawTable W → List W
  raw_entries t = t.entries.now

  -- `nameable_table` is the table of the places that words of this width can name. The name of the borrow distinguishes the table from other tables
  -- that are lent
  abbrev pub nameable_table : Width → W → RawTable W → Table W
  nameable_table width unlinked t = table_with unlinked (t.entries.ghost_name ∷ []) (nameable width (raw_entries t))

  -- `raw_table` is the table of words of 8 bytes, which can name every place
  abbrev pub raw_table : W → RawTable W → Table W
  raw_table = nameable_table wide

  -- THE FAULT OF A MEMBER that the caller names: the member is not linked, or it does not belong to the table. If the caller names no member, there
  -- is no fault
  abbrev pub member_fault : (is_linked : W → Bool) → Table W → Option Place → ℕ
  member_fault is_linked t None = OK
  member_fault is_linked t (Some p) = cond (is_linked (t.entry p)) OK (cond (nat_lt (index_of p) t.extent.places) NOT_LINKED OUT_OF_RANGE)

  -- THE FAULT OF A PLACE that the caller wants to insert: the place is linked, or it does not belong to the table, or the caller names none
  abbrev pub place_fault : (is_linked : W → Bool) → Table W → Option Place → ℕ
  place_fault is_linked t None = OUT_OF_RANGE
  place_fault is_linked t (Some p) = cond (nat_lt (index_of p) t.extent.places) (cond (is_linked (t.entry p)) LINKED OK) OUT_OF_RANGE

  -- the place belongs to the table and is not linked
  pub record IsFree (is_linked : W → Bool) (t : Table W) (p : Place) : Type 0 where
    pub covered : IsCovered t p
    pub unlinked : IsUnlinked is_linked t p

module _ {W : Type 0} (next_word : W → ℕ) where
  -- `joins_of w` says which two places are neighbors of a place in an XOR list, if w is the words of the place. `other_of w` is one of these
  -- neighbors, given the other. `successor_of w` is what w says in a singly linked list, and `neighbors_of prev w` what w says in a doubly linked
  -- list
  abbrev pub joins_of : W → Option Place → Option Place → Type 0
  joins_of w = readings.HasXorNeighbors next_word (link_of w)

  abbrev pub other_of : W → Option Place → Option Place
  other_of w = readings.xor_other next_word (link_of w)

  module _ (is_linked : W → Bool) where
    abbrev pub successor_of : W → Successor
    successor_of w = readings.successor_of next_word is_linked (link_of w)

    abbrev pub neighbors_of : (W → Option Place) → W → Neighbors
    neighbors_of prev w = readings.neighbors_of next_word is_linked prev (link_of w)
