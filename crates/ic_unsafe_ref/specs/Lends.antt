-- This file defines what the store of objects is after the borrow of one object ends.
use Rattle.std.specs.Prelude.{Option}
use Rattle.std.specs.Borrow.{LendsIf, Fml, RattleType, MutBor}
use Rattle.std.specs.declared.alloc.Allocator.{Ghosts}
use Rattle.ic_unsafe_ref.specs.declared.place.Place.{Place}
use Rattle.ic_unsafe_ref.specs.Objects.{Objects, with_object}
use Rattle.ic_unsafe_ref.specs.contracts.objects.Objects.{the_row}

-- When the borrow r ends, the object at the place p is the last value that was written through r. If r is `None`, the objects
-- stay as they are.
module _ (T A : RattleType) (alloc : Ghosts A.Denot) (s : MutBor (Objects T.Denot)) (p : Place) where
  abbrev pub LendsObject : Option (MutBor T.Denot) → Fml
  LendsObject r = LendsIf (the_row T A alloc) T s r (with_object s.now p) s.now
