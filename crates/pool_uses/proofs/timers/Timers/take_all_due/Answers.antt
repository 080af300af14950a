use Rattle.std.proofs.Common.{arith, refl}
use Rattle.scheduler.proofs.Outcomes.{room_refused}
use Rattle.pool_uses.proofs.KeepingTimers.{takes_one}
use Rattle.pool_uses.proofs.timers.Timers.take_all_due.Goals as goal

pub loop-timer-preserved : goal.loop-timer-preserved
loop-timer-preserved g c =
    let i = c.loop-timer.invariant in
    record { takes = takes_one i.takes c.in-Some.ensures.taken c.in_ok-push.ensures.items; room = omega (arith, i.room, c.push.ensures.capacity) }

pub returns-in_err-push-clause-taken : goal.returns-in_err-push-clause-taken
returns-in_err-push-clause-taken g c =
    let back = room_refused c.from_residual.result c.from_residual.ensures.1 c.in_err-push.ensures.value_returned in
    takes_one c.loop-timer.invariant.takes c.in-Some.ensures.taken (rw (back, c.in_err-push.ensures.items) refl)
