-- A contract treats a view of a borrowed table as a table of links.
use Rattle.std.specs.Prelude.{◌≡◌, ◌∷◌}
use Rattle.std.specs.Borrow.{MutBor}
use Rattle.ic_link_ops.specs.Tables.{Extent, Table, with_extent}
use Rattle.uses.specs.declared.borrowed_table.BorrowedTable.{BorrowedTable}

module _ {L : Type 0} where
  -- the table of links that the view has borrowed, with its current content
  abbrev pub links_of : BorrowedTable L → L
  links_of t = t.links.now

  -- the view `t` holds the borrow `links`: their ghost names are equal, and their current contents are equal
  abbrev pub IsBorrowed : MutBor L → BorrowedTable L → Type 0
  IsBorrowed links t = (t.links.ghost_name ≡ links.ghost_name) × (t.links.now ≡ links.now)

module _ {L E : Type 0} (table : L → Table E) where
  -- the extent of the view has the name of the borrow, which distinguishes the view from views of other borrowed tables
  abbrev pub named : BorrowedTable L → Extent
  named t = record { places = (table t.links.now).extent.places; identity = t.links.ghost_name ∷ (table t.links.now).extent.identity }

  -- the view as a table of links: its entries are those of the borrowed table
  abbrev pub borrowed : BorrowedTable L → Table E
  borrowed t = with_extent (named t) (table t.links.now)
