-- The summary of a subtree can be the number of its members.
use Rattle.std.specs.Prelude.{◌+◌, ◌-◌, ◌^◌, ℕ, ⊤, min, Option, List}
use Rattle.ic_augmented.specs.Summaries.{Summaries}
use Rattle.ic_augmented.specs.AugmentedTables.{or_zero, joined_in}
use Rattle.ic_augmented.specs.declared.augmented_table.Cell.{Cell}
use Rattle.ic_augmented.specs.declared.augmented_table.AugmentedTable.{AugmentedTable}

-- the count of a subtree: the sum of the counts on both sides, plus one. It is at most 2^64 - 1, the greatest number that a word can store
abbrev pub counted : ⊤ → Option ℕ → Option ℕ → ℕ
counted x a b = min (min (or_zero a + or_zero b) (2 ^ 64 - 1) + 1) (2 ^ 64 - 1)

abbrev pub counts_in : List (Cell ⊤ ℕ) → Summaries ℕ
counts_in cells = joined_in counted tt cells

-- the summaries that a table of counts stores: for each place the number of members of the subtree there
abbrev pub counts : {A : Type 0} → AugmentedTable ⊤ ℕ A → Summaries ℕ
counts t = counts_in t.cells.items
