use Rattle.scheduler.proofs.Keeping.{once_each}
use Rattle.scheduler.proofs.scheduler.Scheduler.each_task_is_once.Goals as goal

pub returns : goal.returns
returns g c = rw (← c.self.view_is) (once_each c.self.invariant)
