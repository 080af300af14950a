-- What contracts see of a table whose entries also name the previous place.
use Rattle.std.specs.Prelude.{refl}
use Rattle.ic_link_ops.specs.Prelude.{Place, index_of, Table, IsLinked, IsCovered, link_of, entries, table, linked_by, wide}
use Rattle.ic_link_ops.specs.EntryLaws.{linked_in_range}
use Rattle.ic_link_ops.specs.TwoWords as two
use Rattle.ic_link_ops.specs.ThreeWords as three
use Rattle.ic_any_collection.specs.declared.entry.Entry.{Entry}
use Rattle.ic_any_collection.specs.declared.table_with_prev.TableWithPrev.{TableWithPrev}
use Rattle.ic_any_collection.specs.declared.table_with_prev.TableWithPrev.TheVariants.{Doubly, Tree}
use Rattle.ic_any_collection.specs.declared.kind.Kind.TheVariants as kind
use Rattle.ic_any_collection.specs.Entries.{of_two, of_three, read, is_linked, tree_table_in}

module _ {M : Type 0} where
  abbrev pub table_in : TableWithPrev M → Table Entry
  table_in (Doubly t) = read kind.Doubly of_two (table wide two.no_words t)
  table_in (Tree t) = read kind.Tree of_three (tree_table_in t)

  -- the table covers every linked place
  pub covered_where_linked : (t : TableWithPrev M) (p : Place) → IsLinked is_linked (table_in t) p → IsCovered (table_in t) p
  covered_where_linked (Doubly t) p h = linked_in_range (linked_by two.has_words) (link_of two.no_words) refl (entries t) (index_of p) h
  covered_where_linked (Tree t) p h = linked_in_range (linked_by three.has_link) (link_of three.no_words) refl (entries t) (index_of p) h
