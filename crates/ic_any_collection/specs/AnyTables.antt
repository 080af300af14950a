-- What contracts see of a field's table of any kind.
use Rattle.std.specs.Prelude.{refl}
use Rattle.ic_link_ops.specs.Prelude.{Place, index_of, Table, IsLinked, IsCovered, link_of, entries, table, linked_by, wide}
use Rattle.ic_link_ops.specs.EntryLaws.{linked_in_range}
use Rattle.ic_link_ops.specs.OneWord as one
use Rattle.ic_any_collection.specs.declared.entry.Entry.{Entry}
use Rattle.ic_any_collection.specs.declared.any_table.AnyTable.{AnyTable}
use Rattle.ic_any_collection.specs.declared.any_table.AnyTable.TheVariants.{Singly, Xor, WithPrev}
use Rattle.ic_any_collection.specs.declared.kind.Kind.TheVariants as kind
use Rattle.ic_any_collection.specs.Entries.{of_one, read, is_linked}
use Rattle.ic_any_collection.specs.TablesWithPrev as with_prev

module _ {M : Type 0} where
  -- the table as contracts see it: how many places it covers, and the entry of each place
  abbrev pub table_in : AnyTable M → Table Entry
  table_in (Singly t) = read kind.Singly of_one (table wide one.no_word t)
  table_in (Xor t) = read kind.Xor of_one (table wide one.no_word t)
  table_in (WithPrev t) = with_prev.table_in t

  -- the table covers every linked place
  pub covered_where_linked : (t : AnyTable M) (p : Place) → IsLinked is_linked (table_in t) p → IsCovered (table_in t) p
  covered_where_linked (Singly t) p h = linked_in_range (linked_by one.has_word) (link_of one.no_word) refl (entries t) (index_of p) h
  covered_where_linked (Xor t) p h = linked_in_range (linked_by one.has_word) (link_of one.no_word) refl (entries t) (index_of p) h
  covered_where_linked (WithPrev t) p h = with_prev.covered_where_linked t p h
