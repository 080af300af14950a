use Rattle.std.proofs.Common.{ap}
use Rattle.ic_pool.proofs.Pooling.{lacks_exactly}
use Rattle.ic_rbtree.specs.Tree.{root_of}
use Rattle.ic_container.proofs.TreeLemmas.{all_lacks}
use Rattle.pool_uses.specs.KeptTimers.{deadline_of}
use Rattle.pool_uses.proofs.KeepingTimers.{adds, rises, same_grown}
use Rattle.pool_uses.proofs.timers.Timers.add.Goals as goal

-- The following proofs are for the case that the timer is refused: all places are in use, or there is not enough memory
pub returns-in-Err-NoPlaceLeft-clause-refused : goal.returns-in-Err-NoPlaceLeft-clause-refused
returns-in-Err-NoPlaceLeft-clause-refused g c =
    let e = rw c.in-Err-NoPlaceLeft.field-0-is at c.in-Err-NoPlaceLeft.ensures in
    rw (← c.self.view_is, e.refused.1) (ap (λ timer. timer.value) e.refused.0, same_grown c.self.invariant c.place.new.self.links e.keeps, lacks_exactly _ _ e.full e.refused.0)

pub returns-in-Err-OutOfMemory-clause-refused : goal.returns-in-Err-OutOfMemory-clause-refused
returns-in-Err-OutOfMemory-clause-refused g c =
    let e = rw c.in-Err-OutOfMemory.field-0-is at c.in-Err-OutOfMemory.ensures in
    rw (← c.self.view_is, e.refused.1) (ap (λ timer. timer.value) e.refused.0, same_grown c.self.invariant c.place.new.self.links e.keeps, lacks_exactly _ _ e.full e.refused.0)

-- The following proofs are for the case that the timer is placed
pub insert-requires-clause-lacks : goal.insert-requires-clause-lacks
insert-requires-clause-lacks g c = let e = c.in-Ok.ensures in rw c.place-2.ensures (all_lacks deadline_of _ c.self.invariant c.place.new.self.links e.keeps e.placed)

pub returns-clause-added : goal.returns-clause-added
returns-clause-added g c =
    let e = c.in-Ok.ensures in
    rw (← c.self.view_is) (adds c.self.invariant c.place.new.self.links e.keeps e.placed c.insert.new.links (root_of c.insert.new.tree) (rises c.insert.ensures.all) (rw c.place-2.ensures at c.insert.ensures.order))
