-- This file defines what a pool is after the borrow of one of its objects ends.
use Rattle.std.specs.Prelude.{Option}
use Rattle.std.specs.Borrow.{LendsIf, Fml, RattleType, MutBor}
use Rattle.std.specs.declared.alloc.Allocator.{Ghosts}
use Rattle.ic_link_ops.specs.Prelude.{Place, with_object}
use Rattle.ic_pool.specs.declared.pool.Pool.{Pool}
use Rattle.ic_pool.specs.contracts.pool.Pool.{the_row}

-- When the borrow r ends, the object at the place p is the last value that was written through r. If r is `None`, the pool stays
-- as it is.
module _ (T L A : RattleType) (alloc : Ghosts A.Denot) (s : MutBor (Pool T.Denot L.Denot A.Denot)) (p : Place) where
  abbrev pub LendsPooled : Option (MutBor T.Denot) → Fml
  LendsPooled r = LendsIf (the_row T L A alloc) T s r (λ v. record s.now { objects = with_object s.now.objects p v }) s.now
