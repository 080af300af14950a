use Rattle.std.proofs.Common.{ap, is_some, arith}
use Rattle.ic_unsafe_ref.proofs.Placing.{placed_there}
use Rattle.ic_pool.proofs.Pooling.{lacks_exactly}
use Rattle.scheduler.specs.Refusals.{refusal_number}
use Rattle.scheduler.proofs.Keeping.{adds, kept_added, kept_grown, ready, same_grown, some_left}
use Rattle.scheduler.proofs.scheduler.Scheduler.add.Goals as goal

-- The following proofs are for the case that a task is refused: all places are in use, or there is not enough memory
pub invariant_of-self : goal.invariant_of-self
invariant_of-self g c =
    let e = c.in-Err-NoPlaceLeft.ensures in
    rw ((rw c.in-Err-NoPlaceLeft.field-0-is at e.refused).1) (kept_grown c.self.invariant c.place.new.self.links.1 c.place.new.self.links.0 e.keeps.1 e.keeps.0)

pub returns-in-Err-NoPlaceLeft-clause-refused : goal.returns-in-Err-NoPlaceLeft-clause-refused
returns-in-Err-NoPlaceLeft-clause-refused g c =
    let e = c.in-Err-NoPlaceLeft.ensures in
    let back = rw c.in-Err-NoPlaceLeft.field-0-is at e.refused in
    let full = rw c.in-Err-NoPlaceLeft.field-0-is at e.full in
    rw (← c.self.view_is, back.1) (ap (λ task. task.value) back.0, same_grown c.self.invariant c.place.new.self.links.1 c.place.new.self.links.0 e.keeps.1 e.keeps.0, ap refusal_number (lacks_exactly _ _ full back.0))

pub invariant_of-self-in-Err-OutOfMemory : goal.invariant_of-self-in-Err-OutOfMemory
invariant_of-self-in-Err-OutOfMemory g c =
    let e = c.in-Err-OutOfMemory.ensures in
    rw ((rw c.in-Err-OutOfMemory.field-0-is at e.refused).1) (kept_grown c.self.invariant c.place.new.self.links.1 c.place.new.self.links.0 e.keeps.1 e.keeps.0)

pub returns-in-Err-OutOfMemory-clause-refused : goal.returns-in-Err-OutOfMemory-clause-refused
returns-in-Err-OutOfMemory-clause-refused g c =
    let e = c.in-Err-OutOfMemory.ensures in
    let back = rw c.in-Err-OutOfMemory.field-0-is at e.refused in
    let full = rw c.in-Err-OutOfMemory.field-0-is at e.full in
    rw (← c.self.view_is, back.1) (ap (λ task. task.value) back.0, same_grown c.self.invariant c.place.new.self.links.1 c.place.new.self.links.0 e.keeps.1 e.keeps.0, ap refusal_number (lacks_exactly _ _ full back.0))

-- The following proofs are for the case that the task was placed and is then scheduled
pub schedule-requires-clause-queue : goal.schedule-requires-clause-queue
schedule-requires-clause-queue g c = let e = c.in-Ok.ensures in ready c.self.invariant c.place.new.self.links.1 c.place.new.self.links.0 e.keeps.1 e.keeps.0 e.placed

pub schedule-requires-clause-object : goal.schedule-requires-clause-object
schedule-requires-clause-object g c = ap is_some (placed_there c.in-Ok.ensures.placed)

pub invariant_of-self-2 : goal.invariant_of-self-2
invariant_of-self-2 g c =
    let e = c.in-Ok.ensures in
    kept_added c.self.invariant c.place.new.self.links.1 c.place.new.self.links.0 e.keeps.1 e.keeps.0 e.placed c.schedule.new.links _
    (e.covered.0, omega (arith, e.placed.next, some_left _ e.full)) c.schedule.result c.schedule.ensures.scheduled c.schedule.ensures.acquired c.schedule.ensures.refused

pub returns-clause-added : goal.returns-clause-added
returns-clause-added g c =
    let e = c.in-Ok.ensures in
    rw (← c.self.view_is)
    (adds c.self.invariant c.place.new.self.links.1 c.place.new.self.links.0 e.keeps.1 e.keeps.0 e.placed c.schedule.new.links _
    (e.covered.0, omega (arith, e.placed.next, some_left _ e.full)) c.schedule.result c.schedule.ensures.scheduled c.schedule.ensures.acquired c.schedule.ensures.refused)
