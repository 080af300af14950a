use Rattle.std.proofs.Common.{refl}
use Rattle.scheduler.proofs.Keeping.{waiting_is}
use Rattle.scheduler.proofs.scheduler.Scheduler.stands_for_what_waits.Goals as goal

pub returns : goal.returns
returns g c = rw (← c.self.view_is, waiting_is c.self.invariant) (record { rises = c.self.invariant.sorted.sorted; alike = λ d. refl })
