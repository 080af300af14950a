-- Each place has a number, and the summary of a subtree is the greatest number in it.
use Rattle.std.specs.Prelude.{ℕ, Bool, nat_lt, max, Option, List}
use Rattle.ic_unsafe_ref.specs.declared.place.Place.{Place}
use Rattle.ic_augmented.specs.Summaries.{Summaries}
use Rattle.ic_augmented.specs.AugmentedTables.{or_zero, cell_in, joined_in}
use Rattle.ic_augmented.specs.declared.augmented_table.Cell.{Cell}
use Rattle.ic_augmented.specs.declared.augmented_table.AugmentedTable.{AugmentedTable}

-- the greatest of a number and of the summaries of two subtrees
abbrev pub greatest_of : ℕ → Option ℕ → Option ℕ → ℕ
greatest_of number a b = max number (max (or_zero a) (or_zero b))

abbrev pub number_in : List (Cell ℕ ℕ) → Place → ℕ
number_in cells p = (cell_in 0 cells p).value

abbrev pub greatest_in : List (Cell ℕ ℕ) → Summaries ℕ
greatest_in cells = joined_in greatest_of 0 cells

module _ {A : Type 0} where
  -- `greatest` gives the summaries that a table of numbers stores, and `number_at` gives the number of the place p
  abbrev pub greatest : AugmentedTable ℕ ℕ A → Summaries ℕ
  greatest t = greatest_in t.cells.items

  abbrev pub number_at : AugmentedTable ℕ ℕ A → Place → ℕ
  number_at t p = number_in t.cells.items p

-- whether the number of the place p is greater than `bound`
abbrev pub is_greater : (number : Place → ℕ) → ℕ → Place → Bool
is_greater number bound p = nat_lt bound (number p)
