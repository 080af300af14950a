use Rattle.std.proofs.Common.{◌≤◌, length, vec_capacity}
use Rattle.pool_uses.specs.Timers.{TakesAll}
use Rattle.pool_uses.proofs.timers.Timers.take_all_due.Given as goal

abbrev pub invariant-loop-timer : goal.invariant-loop-timer
invariant-loop-timer g l = record {
  takes : TakesAll l.now l.fn.due.items l.due.items l.fn.self.waiting l.self.waiting;
  room : vec_capacity l.fn.due ≤ vec_capacity l.due;
}

abbrev pub decreases-loop-timer : goal.decreases-loop-timer
decreases-loop-timer g l = length l.self.waiting
