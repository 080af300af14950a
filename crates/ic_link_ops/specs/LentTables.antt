-- A lent table borrows the links of a plain table and gives access to them.
use Rattle.std.specs.Prelude.{◌≡◌, ◌∷◌, ℕ, List}
use Rattle.std.specs.Borrow.{Lends, Fml, RattleType, MutBor, Array}
use Rattle.std.specs.declared.alloc.Allocator.{Ghosts}
use Rattle.ic_link_ops.specs.Tables.{Table}
use Rattle.ic_link_ops.specs.Links.{link_with}
use Rattle.ic_link_ops.specs.Widths.{Width}
use Rattle.ic_link_ops.specs.PlainTables.{nameable_table, with_entries}
use Rattle.ic_link_ops.specs.declared.link.Link.{Link}
use Rattle.ic_link_ops.specs.declared.table.PlainTable.{PlainTable}
use Rattle.ic_link_ops.specs.contracts.table.PlainTable.{the_row}
use Rattle.ic_link_ops.specs.contracts.link.Link.{the_row as link_row}
use Rattle.ic_link_ops.specs.declared.lent_table.LentTable.{LentTable}

module _ {W V : Type 0} where
  -- The lent table t borrows the links `links`, and it has not changed them yet.
  abbrev pub IsView : MutBor (List (Link W V)) → LentTable W V → Type 0
  IsView links t = (t.entries.ghost_name ≡ links.ghost_name) × (t.entries.now ≡ links.now)

  -- The links which a lent table borrows, in the order of their places.
  abbrev pub lent_entries : LentTable W V → List (Link W V)
  lent_entries t = t.entries.now

  -- The lent table t, in the form in which contracts describe it. The arguments are the width of the words, the words and the
  -- value of a new link, and the function that turns values into numbers. The name of the borrow is a part of the table's extent
  -- and distinguishes the table from other lent tables.
  abbrev pub lent_table : Width → W → V → (List V → List ℕ) → LentTable W V → Table (Link W V)
  lent_table w unlinked initial printed t = nameable_table w (link_with unlinked initial) (λ vs. t.entries.ghost_name ∷ printed vs) (lent_entries t)

-- When the borrow of a plain table's links ends, the plain table has the links that were written last through the borrow.
abbrev pub LendsLinks : (W A V : RattleType) → Ghosts A.Denot → MutBor (PlainTable W.Denot A.Denot V.Denot) → MutBor (List (Link W.Denot V.Denot)) → Fml
LendsLinks W A V alloc table links = Lends (the_row W A V alloc) (Array (link_row W V) 0) table links (with_entries table.now)
