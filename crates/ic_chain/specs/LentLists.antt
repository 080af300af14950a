-- What a `LentList` borrows, which is a list and the table of its links.
use Rattle.std.specs.Prelude.{◌≡◌}
use Rattle.ic_chain.specs.declared.lent_list.LentList.{LentList}

module _ {K T L H P : Type 0} where
  -- the new value borrows the same list and the same table as the old value
  abbrev pub SameLoans : LentList K T L H P → LentList K T L H P → Type 0
  SameLoans old new = (new.original.ghost_name ≡ old.original.ghost_name) × (new.links.ghost_name ≡ old.links.ghost_name)
