-- A container lends one of its values mutably, and this file says which values it has when the borrow ends.
use Rattle.std.specs.Prelude.{◌≡◌, ℕ, Bool, Option, List, ⊤}
use Rattle.std.specs.Borrow.{Fml, RattleType, MutBor, follows_so}
use Rattle.std.specs.declared.alloc.Allocator.{Ghosts}
use Rattle.ic_indexed.specs.declared.has_key.HasKey.{Ghosts as KeyGhosts}
use Rattle.ic_indexed.specs.declared.index.Index.{Ghosts as IndexGhosts}
use Rattle.ic_link_ops.specs.Prelude.{Place, Width}
use Rattle.ic_pool.specs.declared.tables.Tables.{Ghosts as TableGhosts}
use mathlib.Core.Option.{none}
use Rattle.ic_keyed.specs.Keyed.{KeyedValues, with_values}
use Rattle.ic_keyed.specs.contracts.keyed.Keyed.{the_row}

-- the container has the given values, in the given order, when the borrow ends
module _ (T I A Links Order : RattleType) (key : KeyGhosts T.Denot) (index : IndexGhosts I.Denot T.Denot A.Denot Links.Denot Order.Denot) (tables : TableGhosts Links.Denot) (unlinked : Order.Denot) (is_linked : Order.Denot → Bool) (width : Width) (next_word : Order.Denot → ℕ) (KeepsOthers : Order.Denot → Order.Denot → Type 0) (prev : Order.Denot → Option Place) (alloc : Ghosts A.Denot) (keyed : MutBor (KeyedValues T.Denot)) where
  abbrev pub EndsAs : List T.Denot → Fml
  EndsAs values = follows_so (the_row T I A Links Order key index tables (record { prev = prev }) (record { next_word = next_word; KeepsOthers = KeepsOthers }) (record { unlinked = unlinked; is_linked = is_linked; width = width }) alloc) (the_row T I A Links Order key index tables (record { prev = prev }) (record { next_word = next_word; KeepsOthers = KeepsOthers }) (record { unlinked = unlinked; is_linked = is_linked; width = width }) alloc) keyed.ghost_name none (λ _ _. ⊤) (λ new. new ≡ with_values keyed.now values)
