-- The set of the linked places of a table.
use Rattle.std.specs.Prelude.{ℕ, ◌+◌, ◌*◌, Bool, false, cond, List, [], ◌∷◌, Option, Some, None}
use Rattle.std.proofs.Common.{zero, suc}
use Rattle.std.specs.Ordering.{nat_cmp}
use Rattle.std.specs.FinSet as set
use Rattle.ic_link_ops.specs.Prelude.{Place, place_at, Table}
use Rattle.ic_any_collection.specs.declared.entry.Entry.{Entry}
use Rattle.ic_any_collection.specs.Entries.{is_linked}

-- whether a place is linked in the table. `linked_there` is given the place, or none, which counts as unlinked. `linked_index` is given the index of
-- the place
abbrev pub linked_there : Table Entry → Option Place → Bool
linked_there t None = false
linked_there t (Some p) = is_linked (t.entry p)

abbrev pub linked_index : Table Entry → ℕ → Bool
linked_index t i = linked_there t (place_at (8 * (i + 1)))

-- `linked_below` lists the indexes of the linked places below an index. `linked_in` is the set of all linked places of the table
abbrev pub linked_below : Table Entry → ℕ → List ℕ
linked_below t zero = []
linked_below t (suc n) = cond (linked_index t n) (n ∷ linked_below t n) (linked_below t n)

unfoldable pub linked_in : Table Entry → set.FinSet nat_cmp
linked_in t = set.from_list (linked_below t t.extent.places)
