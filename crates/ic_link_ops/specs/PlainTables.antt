-- A plain table stores one link for each place that it covers.
use Rattle.std.specs.Vec.{with_items}
use Rattle.std.specs.Prelude.{ℕ, List, [], length, slice_index_or, map, Bool, ⊤}
use Rattle.ic_unsafe_ref.specs.declared.place.Place.{Place}
use Rattle.ic_unsafe_ref.specs.Places.{index_of}
use Rattle.ic_link_ops.specs.Tables.{Table}
use Rattle.ic_link_ops.specs.Widths.{Width, nameable}
use Rattle.ic_link_ops.specs.Links.{link_of, link_with, words_of, value_of}
use Rattle.ic_link_ops.specs.declared.link.Link.{Link}
use Rattle.ic_link_ops.specs.declared.table.PlainTable.{PlainTable}

module _ {W A V : Type 0} where
  -- The links of a plain table, in the order of their places.
  abbrev pub entries : PlainTable W A V → List (Link W V)
  entries t = t.entries.items

  -- `with_entries t es` is the table t with the links es instead of its own links. The list es has to be as long as the list of
  -- links of t.
  abbrev pub with_entries : PlainTable W A V → List (Link W V) → PlainTable W A V
  with_entries t es = record t { entries = with_items t.entries es }

module _ {E : Type 0} (unlinked : E) where
  -- `entry_at es p` is the entry of the place p in the list es. For a place beyond the last entry the result is `unlinked`.
  abbrev pub entry_at : List E → Place → E
  entry_at es p = slice_index_or es (index_of p) unlinked

  -- The table with the entries es and the given identity. The identity distinguishes the table from other tables of its type.
  abbrev pub table_with : List ℕ → List E → Table E
  table_with identity es = record { extent = record { places = length es; identity = identity }; entry = entry_at es }

  -- The table with the given entries and an empty identity.
  abbrev pub table_of : List E → Table E
  table_of = table_with []

module _ {W V : Type 0} where
  -- The values of a list of links, in the order of their places.
  abbrev pub values_beside : List (Link W V) → List V
  values_beside es = map value_of es

  -- The table of those links in es whose places can be named by words of the width w. `printed` turns the values of these links
  -- into numbers, which are the table's identity.
  abbrev pub nameable_table : Width → Link W V → (List V → List ℕ) → List (Link W V) → Table (Link W V)
  nameable_table w unlinked printed es = table_with unlinked (printed (values_beside (nameable w es))) (nameable w es)

  -- The plain table t, in the form in which contracts describe it. The arguments are the width of the words, the words and the
  -- value of a new link, and the function that turns values into numbers.
  abbrev pub table_beside : {A : Type 0} → Width → W → V → (List V → List ℕ) → PlainTable W A V → Table (Link W V)
  table_beside w unlinked initial printed t = nameable_table w (link_with unlinked initial) printed (entries t)

  -- `linked_by` says, from the words of a link, whether its place is linked.
  abbrev pub linked_by : (W → Bool) → Link W V → Bool
  linked_by is_linked l = is_linked (words_of l)

-- A plain table whose words have this width and whose links have no values, in the form in which contracts describe it.
abbrev pub table : {W A : Type 0} → Width → W → PlainTable W A ⊤ → Table (Link W ⊤)
table w unlinked t = table_beside w unlinked tt (λ _. []) t
