-- What the collections of a world are at the end of a `&mut` borrow of the list or tree of one collection.
use Rattle.std.specs.Prelude.{ℕ, List, Option}
use Rattle.std.specs.Borrow.{Lends, Fml, RattleType, MutBor}
use Rattle.std.specs.declared.alloc.Allocator.{Ghosts}
use Rattle.ic_any_collection.specs.declared.any_collection.AnyCollection.{AnyCollection}
use Rattle.ic_any_collection.specs.contracts.any_collection.AnyCollection.{the_row as members_row}
use Rattle.ic_world.specs.declared.collection.Collection.{Collection}
use Rattle.ic_world.specs.Collections.{with_members}
use Rattle.ic_world.specs.contracts.collections_by_number.CollectionsByNumber.{the_row}

-- when the borrow r ends, the collection with number c has the list or tree that was last written through r
module _ (T M : RattleType) (alloc : Ghosts M.Denot) (s : MutBor (List (Option (Collection T.Denot)))) (c : ℕ) where
  abbrev pub LendsMembers : MutBor (AnyCollection T.Denot) → Fml
  LendsMembers r = Lends (the_row T M alloc) (members_row T) s r (with_members s.now c)
