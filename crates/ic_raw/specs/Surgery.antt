-- An implementation of tree edits may record which words it writes. This file says which of these words the record covers.
use Rattle.std.specs.Prelude.{◌≡◌, List}
use Rattle.ic_link_ops.specs.Prelude.{Place, Table, ChangesOnly}
use Rattle.ic_raw.specs.declared.table.RawTable.{RawTable}
use Rattle.ic_raw.specs.declared.words.RawThree.{RawThree}
use Rattle.ic_raw.specs.Tables.{raw_entries}
use Rattle.ic_raw.specs.Tree.{lent_table}

-- `a` and `b` are the state of the implementation before the edit and after it
module _ {S : Type 0} (Reports : S → S → Table RawThree → Table RawThree → Type 0) (a b : S) where
  -- at its beginning, an insertion changes only the entry of p. The record covers what the insertion writes after this change
  abbrev pub ReportsInsertion : (old new : Table RawThree) → Place → Type 0
  ReportsInsertion old new p = (mid : Table RawThree) × ChangesOnly old mid p × Reports a b mid new

  -- at its end, a removal changes only the entry of p. The record covers what the removal writes before this change
  abbrev pub ReportsRemoval : (old new : Table RawThree) → Place → Type 0
  ReportsRemoval old new p = (mid : Table RawThree) × Reports a b old mid × ChangesOnly mid new p

-- A PROPERTY HOLDS OF TWO VIEWS: one view has the words `old`, one has the words `new`, and P holds of the tables of these views
abbrev pub HoldsOfViews : (old new : List RawThree) → (Table RawThree → Table RawThree → Type 0) → Type 0
HoldsOfViews old new P = (links : RawTable RawThree) × (links' : RawTable RawThree) × (raw_entries links ≡ old) × (new ≡ raw_entries links') × P (lent_table links) (lent_table links')
