-- A table of summaries stores a value and a summary for each place.
use Rattle.std.specs.Prelude.{ℕ, Option, Some, None, List, length, slice_index_or}
use Rattle.ic_link_ops.specs.Prelude.{Place, index_of}
use Rattle.ic_augmented.specs.Summaries.{Summaries}
use Rattle.ic_augmented.specs.declared.augmented_table.Cell.{Cell}
use Rattle.ic_augmented.specs.declared.augmented_table.AugmentedTable.{AugmentedTable}

-- the number k, or 0 if there is no number
abbrev pub or_zero : Option ℕ → ℕ
or_zero None = 0
or_zero (Some k) = k

-- 1 if the summary is fresh, and 0 if it is stale
abbrev pub is_kept : {S : Type 0} → Option S → ℕ
is_kept None = 0
is_kept (Some x) = 1

module _ {V S : Type 0} where
  -- a blank cell has the initial value and no summary. Each place that no call has written has a blank cell, and so has each place beyond the end of the
  -- table
  abbrev pub blank : V → Cell V S
  blank initial = record { value = initial; summary = None; upper = None }

  abbrev pub cell_in : V → List (Cell V S) → Place → Cell V S
  cell_in initial cells p = slice_index_or cells (index_of p) (blank initial)

  abbrev pub joined_in : (V → Option S → Option S → S) → V → List (Cell V S) → Summaries S
  joined_in join initial cells = record {
    fresh = λ p. (cell_in initial cells p).summary;
    upper = λ p. (cell_in initial cells p).upper;
    join = λ p a b. join (cell_in initial cells p).value a b;
  }

  module _ {A : Type 0} where
    -- `joined` gives the summaries that the table stores, `room_of` the number of places with room for a summary, and `value_of` the value of the place p
    abbrev pub joined : (V → Option S → Option S → S) → V → AugmentedTable V S A → Summaries S
    joined join initial t = joined_in join initial t.cells.items

    abbrev pub room_of : AugmentedTable V S A → ℕ
    room_of t = length t.cells.items

    abbrev pub value_of : V → AugmentedTable V S A → Place → V
    value_of initial t p = (cell_in initial t.cells.items p).value
