-- The parts of a reading cursor of a ring that contracts name.
use Rattle.std.specs.Prelude.{◌≡◌}
use Rattle.ic_link_ops.specs.Prelude.{Place, Table, Neighbors}
use Rattle.ic_ring.specs.RingCursors.{IsValidCursor}
use Rattle.ic_ring.specs.declared.cursor.Cursor.{Cursor}

module _ {T L : Type 0} where
  -- the table that the cursor reads. `head_of` is the head of its ring, and `at_of` is the place that the cursor is on
  abbrev pub links_of : Cursor T L → L
  links_of c = c.links.now

  abbrev pub head_of : Cursor T L → Place
  head_of c = c.head

  abbrev pub at_of : Cursor T L → Place
  at_of c = c.at

  -- THE CURSOR IS VALID: it is on a member or on the head of its ring
  abbrev pub IsValid : {E : Type 0} → (E → Neighbors) → (L → Table E) → Cursor T L → Type 0
  IsValid neighbors table c = IsValidCursor neighbors (table (links_of c)) (head_of c) (at_of c)

  -- the new cursor reads the same ring of the same table as the old cursor
  abbrev pub SameRing : Cursor T L → Cursor T L → Type 0
  SameRing old new = (head_of new ≡ head_of old) × (links_of new ≡ links_of old)

  module _ {E : Type 0} (neighbors : E → Neighbors) (table : L → Table E) where
    -- THE CURSOR MOVES in its ring, and the ring does not change. `Leads` says which moves the call makes: those to the next member (`MovesOn`) or those
    -- to the previous member (`MovesBack`)
    pub record Moves (Leads : (E → Neighbors) → Table E → Place → Place → Place → Type 0) (old new : Cursor T L) : Type 0 where
      pub moved : Leads neighbors (table (links_of old)) (head_of old) (at_of old) (at_of new)
      pub stands : IsValid neighbors table new
      pub same : SameRing old new
