-- What a link field's table is at the end of a `&mut` borrow of the inner table that the field's table contains.
use Rattle.std.specs.Prelude.{ℕ, ⊤}
use Rattle.std.specs.Borrow.{Lends, Fml, RattleType, MutBor, u64, unit}
use Rattle.std.specs.declared.alloc.Allocator.{Ghosts}
use Rattle.ic_any_collection.specs.declared.any_table.AnyTable.{AnyTable}
use Rattle.ic_any_collection.specs.declared.any_table.AnyTable.TheVariants.{WithPrev}
use Rattle.ic_any_collection.specs.declared.table_with_prev.TableWithPrev.{TableWithPrev}
use Rattle.ic_any_collection.specs.declared.table_with_prev.TableWithPrev.TheVariants.{Tree}
use Rattle.ic_link_ops.specs.declared.table.PlainTable.{PlainTable}
use Rattle.ic_link_ops.specs.declared.rbtree.ThreeWords.{ThreeWords}
use Rattle.ic_link_ops.specs.Widths.{wide}
use Rattle.ic_any_collection.specs.contracts.any_table.AnyTable.{the_row as any_row}
use Rattle.ic_any_collection.specs.contracts.table_with_prev.TableWithPrev.{the_row as with_prev_row}
use Rattle.ic_link_ops.specs.contracts.table.PlainTable.{the_row as plain_row}
use Rattle.ic_link_ops.specs.contracts.rbtree.ThreeWords.{the_row as words_row}

-- the type of three words of 8 bytes
abbrev wide_row : RattleType
wide_row = words_row u64 (record { width = wide; number = λ n. n })

-- when the borrow r ends, the table that s contains is the last value that was written through r
module _ (M : RattleType) (alloc : Ghosts M.Denot) where
  abbrev pub LendsWithPrev : MutBor (AnyTable M.Denot) → MutBor (TableWithPrev M.Denot) → Fml
  LendsWithPrev s r = Lends (any_row M alloc) (with_prev_row M alloc) s r (λ t. WithPrev t)

  abbrev pub LendsTree : MutBor (AnyTable M.Denot) → MutBor (PlainTable (ThreeWords ℕ) M.Denot ⊤) → Fml
  LendsTree s r = Lends (any_row M alloc) (plain_row wide_row M unit alloc) s r (λ t. WithPrev (Tree t))

  abbrev pub LendsTreeOf : MutBor (TableWithPrev M.Denot) → MutBor (PlainTable (ThreeWords ℕ) M.Denot ⊤) → Fml
  LendsTreeOf s r = Lends (with_prev_row M alloc) (plain_row wide_row M unit alloc) s r (λ t. Tree t)
