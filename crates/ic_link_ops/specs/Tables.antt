-- This file describes a table of links at one moment, as contracts use it, and how a call may change the table.
use Rattle.std.specs.Prelude.{◌≡◌, ◌≢◌, ℕ, ◌<◌, Bool, true, false, Option, Some, None, List, ⊤}
use Rattle.ic_unsafe_ref.specs.declared.place.Place.{Place}
use Rattle.ic_unsafe_ref.specs.Places.{index_of}
use Rattle.ic_link_ops.specs.Sequences.{IsAbsent}

-- An extent is the number of places that a table covers, and the table's identity. The identity distinguishes the table from
-- other tables of its type. It contains the name of each borrow that the table holds, and the numbers of the values beside the
-- links. If the type is a sum of tables, the identity also contains the number of the variant. The identity of a plain table
-- without values is empty. Each call of a collection leaves the extent unchanged.
pub record Extent : Type 0 where
  pub places : ℕ
  pub identity : List ℕ

-- A table is its extent and the entry that it stores at each place.
pub record Table (E : Type 0) : Type 0 where
  pub extent : Extent
  pub entry : Place → E

-- `can p` says that a table's words have room for the name of p. The end of a list is nameable if it is none, or if it is a place
-- that the words can name.
abbrev pub IsNameable : (Place → Type 0) → Option Place → Type 0
IsNameable can None = ⊤
IsNameable can (Some p) = can p

module _ {E : Type 0} where
  -- The table with the entries of t and with the extent e.
  abbrev pub with_extent : Extent → Table E → Table E
  with_extent e t = record { extent = e; entry = t.entry }

  -- The place p is one of the places that the table covers.
  abbrev pub IsCovered : Table E → Place → Type 0
  IsCovered t p = index_of p < t.extent.places

  -- `IsLinked` says that the place p is linked according to its entry, and `IsUnlinked` says that p is not linked.
  abbrev pub IsLinked : (E → Bool) → Table E → Place → Type 0
  IsLinked linked t p = linked (t.entry p) ≡ true

  abbrev pub IsUnlinked : (E → Bool) → Table E → Place → Type 0
  IsUnlinked linked t p = linked (t.entry p) ≡ false

  -- The tables `old` and `new` have equal extents, and equal entries at all places except p.
  pub record ChangesOnly (old new : Table E) (p : Place) : Type 0 where
    pub extent : new.extent ≡ old.extent
    pub others : (q : Place) → q ≢ p → new.entry q ≡ old.entry q

  -- The tables `old` and `new` have equal extents, and equal entries at all places that are not in s. A clause that says so is
  -- called a frame.
  pub record ChangesOnlyIn (old new : Table E) (s : List Place) : Type 0 where
    pub extent : new.extent ≡ old.extent
    pub others : (q : Place) → IsAbsent q s → new.entry q ≡ old.entry q

  -- The linked places of `new` are the linked places of `old` and also p, which was not linked in `old`.
  pub record LinksAlso (linked : E → Bool) (old new : Table E) (p : Place) : Type 0 where
    pub was : IsUnlinked linked old p
    pub is : IsLinked linked new p
    pub others : (q : Place) → q ≢ p → linked (new.entry q) ≡ linked (old.entry q)

  -- The linked places of `new` are the linked places of `old` without p, which was linked in `old`.
  pub record Unlinks (linked : E → Bool) (old new : Table E) (p : Place) : Type 0 where
    pub was : IsLinked linked old p
    pub is : IsUnlinked linked new p
    pub others : (q : Place) → q ≢ p → linked (new.entry q) ≡ linked (old.entry q)

  -- In `new`, p is linked instead of `out`. In `old`, `out` was linked and p was not. Every other place is linked in `new` if it
  -- was linked in `old`, and unlinked otherwise.
  pub record Exchanges (linked : E → Bool) (old new : Table E) (p out : Place) : Type 0 where
    pub was : IsUnlinked linked old p
    pub is : IsLinked linked new p
    pub out_was : IsLinked linked old out
    pub out_is : IsUnlinked linked new out
    pub others : (q : Place) → q ≢ p → q ≢ out → linked (new.entry q) ≡ linked (old.entry q)

  -- The same places are linked in the table `old` and in the table `new`.
  abbrev pub KeepsLinked : (E → Bool) → Table E → Table E → Type 0
  KeepsLinked linked old new = (q : Place) → linked (new.entry q) ≡ linked (old.entry q)
