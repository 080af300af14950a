-- What a collection and its table are after each kind of edit. The definitions are the same for every kind of collection.
use Rattle.std.specs.Prelude.{◌≡◌, Bool, true, false, Option, Some, None, List, [], ◌∷◌, ◌++◌}
use Rattle.ic_link_ops.specs.Prelude.{Place, Cut, join, insert, remove, replace, splice, first, Table, ChangesOnlyIn, IsLinked, KeepsLinked, LinksAlso, Unlinks, TraceIs, acquires, releases, releases_each}
use Rattle.ic_any_collection.specs.declared.entry.Entry.{Entry}
use Rattle.ic_any_collection.specs.declared.any_table.AnyTable.{AnyTable}
use Rattle.ic_any_collection.specs.Entries.{is_linked}
use Rattle.ic_any_collection.specs.AnyTables.{table_in}
use Rattle.ic_any_collection.specs.declared.any_collection.AnyCollection.{AnyCollection}
use Rattle.ic_any_collection.specs.AnyCollection.{cursor_in, members_in, Keeps, Alike}

-- the statement `Rest` holds of some gap of the sequence s
abbrev pub AtGap : List Place → (Cut → Type 0) → Type 0
AtGap s Rest = (gap : Cut) × (join gap ≡ s) × Rest gap

-- `t` is the table before a call, and `t'` is the table after the call. `m` is the collection before the call, and `m'` is the collection after the
-- call
module _ {V : Type 0} where
  -- ONLY THE CURSOR OF THE COLLECTION MAY HAVE MOVED: the collection has the same kind and members as before, and its cursor is now at `cursor`
  pub record Moves (t : Table Entry) (m m' : AnyCollection V) (cursor : Option Place) : Type 0 where
    pub kept : Keeps t m' (members_in t m)
    pub alike : Alike m m'
    pub cursor_is : cursor_in m' ≡ cursor

  -- NOTHING HAS CHANGED: the table is as before the call, and the collection has the same members and the same cursor as before
  abbrev pub IsUnchanged : {M : Type 0} → (links links' : AnyTable M) → (m m' : AnyCollection V) → Type 0
  IsUnchanged links links' m m' = (links' ≡ links) × Moves (table_in links) m m' (cursor_in m)

  module _ (t t' : Table Entry) (m m' : AnyCollection V) where
    -- THE COLLECTION NOW HAS THE MEMBERS s, its kind is as before, and its cursor is at `cursor`. Only entries of places in `touched` have changed
    pub record Leaves (s : List Place) (cursor : Option Place) (touched : List Place) : Type 0 where
      pub kept : Keeps t' m' s
      pub alike : Alike m m'
      pub cursor_is : cursor_in m' ≡ cursor
      pub frame : ChangesOnlyIn t t' touched

    -- the place p, which was unlinked, is inserted into the gap and is linked now
    pub record Puts (gap : Cut) (p : Place) (cursor : Option Place) : Type 0 where
      pub leaves : Leaves (insert gap p) cursor (p ∷ members_in t m)
      pub links : LinksAlso is_linked t t' p

    -- the member p after the gap is removed and unlinked
    pub record Takes (gap : Cut) (p : Place) (cursor : Option Place) : Type 0 where
      pub there : first gap.back ≡ Some p
      pub leaves : Leaves (remove gap) cursor (members_in t m)
      pub links : Unlinks is_linked t t' p

    -- the place p, which was unlinked, replaces the member `out` after the gap. Now p is linked and `out` is unlinked
    pub record Swaps (gap : Cut) (p out : Place) (cursor : Option Place) : Type 0 where
      pub there : first gap.back ≡ Some out
      pub leaves : Leaves (replace gap p) cursor (p ∷ members_in t m)
      pub links : TraceIs is_linked t t' (acquires p ∷ releases out ∷ [])

    -- all members of the collection are removed and unlinked
    pub record Empties : Type 0 where
      pub leaves : Leaves [] None (members_in t m)
      pub links : TraceIs is_linked t t' (releases_each (members_in t m))

    -- all members of the sequence r are inserted into the gap, and each place that was linked stays linked
    pub record PutsAll (gap : Cut) (r : List Place) : Type 0 where
      pub leaves : Leaves (splice gap r) (cursor_in m) (splice gap r)
      pub links : KeepsLinked is_linked t t'

    -- the collection keeps the members `kept`, and the members `handed` become the new collection `part` that the call returns. All members stay
    -- linked
    pub record Parts (kept handed : List Place) (part : AnyCollection V) : Type 0 where
      pub leaves : Leaves kept (cursor_in m) (kept ++ handed)
      pub hands_out : Keeps t' part handed
      pub part_alike : Alike m part
      pub null : cursor_in part ≡ None
      pub links : KeepsLinked is_linked t t'

  -- THE MEMBER AFTER THE GAP is removed if there is one. If there is none, only the cursor moves to its new position, and the table is as before
  abbrev pub TakesIfAny : {M : Type 0} → (links links' : AnyTable M) → (m m' : AnyCollection V) → Cut → Option Place → Option Place → Type 0
  TakesIfAny links links' m m' gap cursor None = (links' ≡ links) × Moves (table_in links) m m' cursor
  TakesIfAny links links' m m' gap cursor (Some p) = Takes (table_in links) (table_in links') m m' gap p cursor

  -- THE MEMBER AFTER THE GAP is replaced by the place p. If no member follows the gap, or if p was linked already, nothing has changed
  abbrev pub SwapsIfAny : {M : Type 0} → (links links' : AnyTable M) → (m m' : AnyCollection V) → Cut → Place → Option Place → Option Place → Bool → Type 0
  SwapsIfAny links links' m m' gap p cursor None acquired = IsUnchanged links links' m m'
  SwapsIfAny links links' m m' gap p cursor (Some out) false = IsLinked is_linked (table_in links) p × IsUnchanged links links' m m'
  SwapsIfAny links links' m m' gap p cursor (Some out) true = Swaps (table_in links) (table_in links') m m' gap p out cursor
