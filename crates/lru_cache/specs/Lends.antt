-- Definitions that say which entries a cache has when a mutable reference into the cache ends.
use Rattle.std.specs.Prelude.{◌≡◌, ℕ, Bool, Option, List, ⊤}
use Rattle.std.specs.Borrow.{Fml, RattleType, MutBor, follows_so}
use Rattle.std.specs.declared.alloc.Allocator.{Ghosts}
use Rattle.ic_indexed.specs.declared.index.Index.{Ghosts as IndexGhosts}
use Rattle.ic_link_ops.specs.Prelude.{Place, Width}
use Rattle.ic_pool.specs.declared.tables.Tables.{Ghosts as TableGhosts}
use mathlib.Core.Option.{none}
use Rattle.lru_cache.specs.declared.entry.Entry.{Entry}
use Rattle.lru_cache.specs.Cache.{Cache, with_entries}
use Rattle.lru_cache.specs.contracts.cache.LruCache.{the_row}

-- when the mutable reference ends, the cache has the given entries in the given order, and nothing else of it has changed
module _ (V I A Links Order : RattleType) (index : IndexGhosts I.Denot (Entry V.Denot) A.Denot Links.Denot Order.Denot) (tables : TableGhosts Links.Denot) (unlinked : Order.Denot) (is_linked : Order.Denot → Bool) (width : Width) (next_word : Order.Denot → ℕ) (KeepsOthers : Order.Denot → Order.Denot → Type 0) (prev : Order.Denot → Option Place) (alloc : Ghosts A.Denot) (cache : MutBor (Cache V.Denot)) where
  abbrev pub EndsAs : List (Entry V.Denot) → Fml
  EndsAs entries = follows_so (the_row V I A Links Order index tables (record { prev = prev }) (record { next_word = next_word; KeepsOthers = KeepsOthers }) (record { unlinked = unlinked; is_linked = is_linked; width = width }) alloc) (the_row V I A Links Order index tables (record { prev = prev }) (record { next_word = next_word; KeepsOthers = KeepsOthers }) (record { unlinked = unlinked; is_linked = is_linked; width = width }) alloc) cache.ghost_name none (λ _ _. ⊤) (λ new. new ≡ with_entries cache.now entries)
